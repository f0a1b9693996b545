use Rattle.std.proofs.Common.{arith}
use Rattle.std.proofs.lemmas.Grind.{common_steps}
use Rattle.csl_tree.proofs.Trees.{tokens_out}
use Rattle.csl_tree.proofs.elem.+content.Goals as goal

pub ElemChildren::has_content-returns-then-has_content : goal.ElemChildren::has_content-returns-then-has_content
ElemChildren::has_content-returns-then-has_content t c = rw (tokens_out c.args.self.now) (grind (arith, common_steps))

pub ElemChildren::has_content-returns : goal.ElemChildren::has_content-returns
ElemChildren::has_content-returns t c = rw (tokens_out c.args.self.now) (grind (arith, common_steps))
