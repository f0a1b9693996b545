use Rattle.std.proofs.Common.{arith, rules}
use Rattle.std.proofs.lemmas.Grind.{common_steps}
use Rattle.csl_list.proofs.Counts.{mapped_more}
use Rattle.csl_list.proofs.collapse.with_long_ranges.Goals as goal

pub loop-i-preserved : goal.loop-i-preserved
loop-i-preserved c = (grind (arith, common_steps, mapped_more), search rules)
