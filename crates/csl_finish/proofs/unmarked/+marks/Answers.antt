use Rattle.std.proofs.Common.{arith}
use Rattle.std.proofs.lemmas.Grind.{common_steps}
use Rattle.csl_tree.proofs.Trees.{tokens_out}
use Rattle.csl_finish.proofs.unmarked.+marks.Goals as goal

pub has_mark-returns-then-child_has_mark : goal.has_mark-returns-then-child_has_mark
has_mark-returns-then-child_has_mark t c = rw (tokens_out c.args.content.now) (grind (arith, common_steps))

pub has_mark-returns : goal.has_mark-returns
has_mark-returns t c = rw (tokens_out c.args.content.now) (grind (arith, common_steps))
