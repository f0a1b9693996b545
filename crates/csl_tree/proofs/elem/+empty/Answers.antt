use Rattle.std.proofs.Common.{arith}
use Rattle.std.proofs.lemmas.Grind.{common_steps}
use Rattle.csl_tree.proofs.Trees.{tokens_out}
use Rattle.csl_tree.proofs.elem.+empty.Goals as goal

pub ElemChildren::is_empty-returns-then-not-is_empty : goal.ElemChildren::is_empty-returns-then-not-is_empty
ElemChildren::is_empty-returns-then-not-is_empty t c = rw (tokens_out c.args.self.now) (grind (arith, common_steps))

pub ElemChildren::is_empty-returns : goal.ElemChildren::is_empty-returns
ElemChildren::is_empty-returns t c = rw (tokens_out c.args.self.now) (grind (arith, common_steps))
