use Rattle.csl_tree.proofs.KeptLinks.{unlinked_other}
use Rattle.csl_tree.proofs.elem.ElemChild.without_link.Goals as goal

pub returns-in_default : goal.returns-in_default
returns-in_default c = unlinked_other c.args.self c.in_default.not-Link
