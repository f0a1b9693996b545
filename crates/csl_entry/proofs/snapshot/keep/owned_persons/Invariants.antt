use Rattle.std.proofs.Common.{◌≡◌, ◌++◌, map}
use Rattle.std.specs.Vec.Iter.{into_iter_items}
use Rattle.lit_model.specs.Person.{person_view}
use Rattle.csl_entry.specs.Answers.{cow_view}
use Rattle.csl_entry.proofs.snapshot.keep.owned_persons.Given as goal

-- the persons so far, and the remaining ones, are all
abbrev pub invariant-loop-person : goal.invariant-loop-person
invariant-loop-person l = map person_view l.own.items ++ map (cow_view person_view) (into_iter_items l.person-iterator) ≡ map (cow_view person_view) l.fn.persons.items
