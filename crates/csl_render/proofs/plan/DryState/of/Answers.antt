use Rattle.std.proofs.Common.{false}
use Rattle.csl_render.proofs.plan.DryState.of.Goals as goal

pub returns : goal.returns
returns g c = λ i. record { whole = false; suppressed = c.suppressed.ensures i; first_date_seen = c.date_seen.ensures i }
