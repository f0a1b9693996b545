use Rattle.std.proofs.Common.{ℕ, ◌<◌}
use Rattle.csl_style.specs.Cycles.{Falls}
use Rattle.csl_style.proofs.Falling.{FallsAlong}
use Rattle.csl_style.proofs.cycles.first_in_level.Given as goal

abbrev pub invariant-loop-at : goal.invariant-loop-at
invariant-loop-at l = (k : ℕ) → k < l.at → Falls l.graph l.levels k

abbrev pub invariant-loop-to : goal.invariant-loop-to
invariant-loop-to l = FallsAlong l.levels l.to-items l.at l.to-index
