use Rattle.std.proofs.Common.{sym}
use Rattle.csl_tree.proofs.Appended.{has_children_is}
use Rattle.csl_tree.proofs.elem.ElemChildren.has_children.Goals as goal

pub returns : goal.returns
returns c = rw c.is_empty.ensures (sym (has_children_is c.args.self.now))
