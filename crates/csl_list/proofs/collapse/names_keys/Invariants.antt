use Rattle.std.specs.Prelude.{◌≡◌, length}
use Rattle.csl_list.proofs.collapse.names_keys.Given as goal

abbrev pub invariant-loop-place : goal.invariant-loop-place
invariant-loop-place l = length l.keys.items ≡ l.place
