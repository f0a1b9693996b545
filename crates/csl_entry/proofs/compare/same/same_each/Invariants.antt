use Rattle.std.proofs.Common.{◌≡◌, map, drop, length}
use Rattle.lit_model.specs.Person.{person_view}
use Rattle.lit_model.specs.SamePerson.{same_persons}
use Rattle.csl_entry.specs.Answers.{cow_view}
use Rattle.csl_entry.proofs.compare.same.same_each.Given as goal

-- The lists have one length. They show the same from this place on exactly if they show the same.
abbrev pub invariant-loop-place : goal.invariant-loop-place
invariant-loop-place l = (length l.persons ≡ length l.others) × (same_persons (map (cow_view person_view) (drop l.place l.persons)) (map (cow_view person_view) (drop l.place l.others)) ≡ same_persons (map (cow_view person_view) l.persons) (map (cow_view person_view) l.others))
