use Rattle.std.proofs.Common.{ℕ, ◌<◌}
use Rattle.csl_style.proofs.Falling.{Stays, StaysAlong}
use Rattle.csl_style.proofs.cycles.are_levels.Given as goal

abbrev pub invariant-loop-at : goal.invariant-loop-at
invariant-loop-at l = (k : ℕ) → k < l.at → Stays l.graph l.levels k

abbrev pub invariant-loop-to : goal.invariant-loop-to
invariant-loop-to l = StaysAlong l.levels l.to-items l.at l.to-index
