use Rattle.std.proofs.Common.{arith}
use Rattle.std.proofs.lemmas.Grind.{common_steps}
use Rattle.csl_tree.proofs.Trees.{tokens_out}
use Rattle.csl_tree.proofs.elem.+copies.Goals as goal

pub ElemChildren::clone-returns : goal.ElemChildren::clone-returns
ElemChildren::clone-returns t c = rw (tokens_out c.args.self.now, tokens_out (record { 0 = c.loop-child.copies })) (grind (arith, common_steps))
