use Rattle.std.proofs.Common.{arith}
use Rattle.std.proofs.lemmas.Grind.{common_steps}
use Rattle.csl_list.proofs.Works.{listed_more}
use Rattle.csl_list.proofs.listed.listed_works.Goals as goal

pub loop-work-preserved : goal.loop-work-preserved
loop-work-preserved c = grind (arith, common_steps, listed_more)
