use Rattle.std.proofs.Common.{◌≡◌, ◌++◌, map, drop}
use Rattle.lit_model.specs.Person.{same_role, with_role}
use Rattle.lit_model.proofs.entry.Entry.affiliated_with_role.Given as goal

abbrev pub invariant-loop-group : goal.invariant-loop-group
invariant-loop-group l =
    map (λ p. p.now) l.persons.items ++ with_role (λ r. same_role r l.role) (drop l.group-index l.group-items) ≡ with_role (λ r. same_role r l.role) l.group-items
