use Rattle.std.specs.Prelude.{◌≡◌, length}
use Rattle.csl_list.proofs.equal.first_equals.Given as goal

abbrev pub invariant-loop-place : goal.invariant-loop-place
invariant-loop-place g l = length l.firsts.items ≡ length l.keys
