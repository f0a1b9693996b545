use Rattle.std.specs.Prelude.{◌≡◌, get_or, map, take}
use Rattle.csl_list.proofs.keys.items_at.Given as goal

abbrev pub invariant-loop-place : goal.invariant-loop-place
invariant-loop-place l = l.picked.items ≡ map (λ place. get_or l.items place 0) (take l.place-index l.places)
