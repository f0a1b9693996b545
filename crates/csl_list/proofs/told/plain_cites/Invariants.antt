use Rattle.std.specs.Prelude.{◌≡◌, length}
use Rattle.csl_list.proofs.told.plain_cites.Given as goal

abbrev pub invariant-loop-place : goal.invariant-loop-place
invariant-loop-place g l = length l.told.items ≡ l.place
