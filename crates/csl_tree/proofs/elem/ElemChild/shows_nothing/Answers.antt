use Rattle.csl_tree.proofs.Appended.{elem_shows}
use Rattle.csl_tree.proofs.elem.ElemChild.shows_nothing.Goals as goal

pub returns-in-Elem-clause-something : goal.returns-in-Elem-clause-something
returns-in-Elem-clause-something c = rw c.in-Elem.is (elem_shows _)
