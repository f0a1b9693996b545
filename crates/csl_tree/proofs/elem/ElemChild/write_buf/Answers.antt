use Rattle.csl_tree.specs.Tokens.{child_tokens}
use Rattle.csl_tree.proofs.Nested.{nested_child, html_leaves}
use Rattle.csl_tree.proofs.elem.ElemChild.write_buf.Goals as goal

pub returns-clause-nested : goal.returns-clause-nested
returns-clause-nested g c = nested_child c.args.self.now

pub returns-clause-leaves : goal.returns-clause-leaves
returns-clause-leaves g c = html_leaves (child_tokens c.args.self.now)
