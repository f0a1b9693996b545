use Rattle.std.proofs.Common.{◌≡◌, map, take}
use Rattle.lit_model.specs.Person.{person_view}
use Rattle.csl_entry.specs.Answers.{cow_view}
use Rattle.csl_laws.proofs.table.name_answer.Given as goal

abbrev pub invariant-loop-person : goal.invariant-loop-person
invariant-loop-person l = map (cow_view person_view) l.found.items ≡ map person_view (take l.person-index l.persons)
