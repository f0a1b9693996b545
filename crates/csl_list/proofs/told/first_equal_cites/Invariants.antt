use Rattle.std.specs.Prelude.{◌≡◌, length}
use Rattle.csl_list.proofs.told.first_equal_cites.Given as goal

abbrev pub invariant-loop-place : goal.invariant-loop-place
invariant-loop-place l = length l.texts.items ≡ l.place-index
