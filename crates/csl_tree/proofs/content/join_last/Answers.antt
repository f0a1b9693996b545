use Rattle.csl_tree.proofs.Appended.{elem_apart}
use Rattle.csl_tree.proofs.content.join_last.Goals as goal

pub returns-in-Elem-clause-apart : goal.returns-in-Elem-clause-apart
returns-in-Elem-clause-apart c = rw c.in-Elem.is (elem_apart _ _)
