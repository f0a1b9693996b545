use Rattle.std.proofs.Common.{◌≡◌, map, take}
use Rattle.csl_finish.proofs.keys.places_of.Given as goal

abbrev pub invariant-loop-pair : goal.invariant-loop-pair
invariant-loop-pair g l = l.places.items ≡ map (λ p. p.1) (take l.pair-index l.placed)
