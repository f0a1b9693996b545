use Rattle.std.proofs.Common.{◌≡◌, map, take}
use Rattle.lit_model.specs.Person.{person_view}
use Rattle.csl_entry.specs.Snapshot.{keyed}
use Rattle.csl_entry.proofs.snapshot.copies.copy_names.Given as goal

abbrev pub invariant-loop-variable : goal.invariant-loop-variable
invariant-loop-variable l = map (keyed (λ persons. map person_view persons.items)) l.copies.items ≡ map (keyed (λ persons. map person_view persons.items)) (take l.variable-index l.names)
