use Rattle.std.proofs.Common.{◌≡◌, map, take}
use Rattle.lit_model.specs.Person.{role_group}
use Rattle.lit_model.proofs.person.copy_groups.Given as goal

abbrev pub invariant-loop-group : goal.invariant-loop-group
invariant-loop-group l = map role_group l.copies.items ≡ map role_group (take l.group-index l.groups)
