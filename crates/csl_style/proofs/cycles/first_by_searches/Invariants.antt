use Rattle.std.proofs.Common.{ℕ, ◌<◌}
use Rattle.csl_style.proofs.Ranking.{ReachesNotItself}
use Rattle.csl_style.proofs.cycles.first_by_searches.Given as goal

abbrev pub invariant-loop-i : goal.invariant-loop-i
invariant-loop-i l = (k : ℕ) → k < l.i → ReachesNotItself l.graph k
