use Rattle.std.specs.Prelude.{◌≡◌, length}
use Rattle.csl_list.proofs.likeness.likenesses.Given as goal

abbrev pub invariant-loop-place : goal.invariant-loop-place
invariant-loop-place l = length l.likenesses.items ≡ l.place
