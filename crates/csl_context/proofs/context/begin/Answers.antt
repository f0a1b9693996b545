use Rattle.csl_context.proofs.Contents.{at_the_root}
use Rattle.csl_context.proofs.context.begin.Goals as goal

pub invariant_of-result : goal.invariant_of-result
invariant_of-result g c = at_the_root c.new.result c.new.ensures
