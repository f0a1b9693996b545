use Rattle.std.proofs.Common.{◌≡◌, map, take}
use Rattle.lit_model.specs.Person.{person_view}
use Rattle.csl_entry.proofs.snapshot.copies.copy_persons.Given as goal

abbrev pub invariant-loop-person : goal.invariant-loop-person
invariant-loop-person l = map person_view l.copies.items ≡ map person_view (take l.person-index l.persons)
