use Rattle.std.proofs.Common.{◌≡◌, map, take}
use Rattle.csl_entry.proofs.label.creators.references.Given as goal

abbrev pub invariant-loop-person : goal.invariant-loop-person
invariant-loop-person l = map (λ p. p.now) l.list.items ≡ take l.person-index l.persons
