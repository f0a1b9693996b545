use Rattle.std.proofs.Common.{◌≡◌, ◌++◌, map, take}
use Rattle.lit_model.proofs.select.push_all.Given as goal

abbrev pub invariant-loop-person : goal.invariant-loop-person
invariant-loop-person l = map (λ p. p.now) l.persons.items ≡ map (λ p. p.now) l.initial.persons.items ++ take l.person-index l.more
