use Rattle.csl_entry.proofs.AlikeSets.{decides_at}
use Rattle.csl_entry.proofs.compare.alike.DateVariableSort.is_alike.Goals as goal

pub returns : goal.returns
returns g c = decides_at _ _ _ _ _ c.same_date.ensures c.in_ok-left.ensures c.in_ok-right.ensures
