use Rattle.std.proofs.Common.{◌≡◌}
use Rattle.csl_finish.specs.Keys.{placed_from}
use Rattle.csl_finish.proofs.keys.placed.Given as goal

abbrev pub invariant-loop-key : goal.invariant-loop-key
invariant-loop-key g l = l.placed.items ≡ placed_from 0 l.yielded
