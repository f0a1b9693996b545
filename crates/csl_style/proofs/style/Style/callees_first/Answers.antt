use Rattle.csl_style.proofs.AllWithins.{name_means}
use Rattle.csl_style.proofs.style.Style.callees_first.Goals as goal

pub returns : goal.returns
returns c = rw (← c.self.view_is) (λ name. name_means c.self.inside.macros.items name c.self.invariant.0)
