use Rattle.csl_entry.proofs.AlikeSets.{decides_at}
use Rattle.csl_entry.proofs.compare.alike.NameVariableSort.is_alike.Goals as goal

pub returns : goal.returns
returns g c = decides_at _ _ _ _ _ (rw (c.deref.ensures.value, c.deref-2.ensures.value) at c.same_persons.ensures.texts) c.in_ok-left.ensures c.in_ok-right.ensures
