use Rattle.csl_tree.specs.Tokens.{tokens}
use Rattle.csl_tree.proofs.Nested.{nested_children, html_leaves}
use Rattle.csl_tree.proofs.elem.ElemChildren.write_buf.Goals as goal

pub returns-clause-nested : goal.returns-clause-nested
returns-clause-nested g c = nested_children c.args.self.now

pub returns-clause-leaves : goal.returns-clause-leaves
returns-clause-leaves g c = html_leaves (tokens c.args.self.now)
