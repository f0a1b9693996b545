use Rattle.csl_nodes.proofs.MadeNothing.{made_nothing}
use Rattle.csl_nodes.proofs.empty.push_nothing.Goals as goal

pub returns : goal.returns
returns g c = record { was_live = c.in_ok-ensure_live.ensures.was_live; becomes = made_nothing _ }
