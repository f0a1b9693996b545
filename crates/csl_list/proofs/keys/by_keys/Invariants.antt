use Rattle.std.specs.Prelude.{◌≡◌, length}
use Rattle.csl_list.proofs.keys.by_keys.Given as goal

abbrev pub invariant-loop-place : goal.invariant-loop-place
invariant-loop-place g l = length l.texts.items ≡ l.place
