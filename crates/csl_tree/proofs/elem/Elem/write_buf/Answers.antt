use Rattle.csl_tree.specs.Tokens.{elem_tokens}
use Rattle.csl_tree.proofs.Nested.{nested_elem, html_leaves}
use Rattle.csl_tree.proofs.elem.Elem.write_buf.Goals as goal

pub returns-clause-nested : goal.returns-clause-nested
returns-clause-nested g c = nested_elem c.args.self.now

pub returns-clause-leaves : goal.returns-clause-leaves
returns-clause-leaves g c = html_leaves (elem_tokens c.args.self.now)
