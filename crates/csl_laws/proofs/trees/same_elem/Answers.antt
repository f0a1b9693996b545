use Rattle.csl_tree.proofs.TreeEqual.{elem_decides}
use Rattle.csl_tree.specs.contracts.elem.ElemHash.TheImpl.Laws.{respects_eq-law}
use Rattle.csl_laws.proofs.trees.same_elem.Goals as goal

pub returns-clause-hashed : goal.returns-clause-hashed
returns-clause-hashed c = λ h. respects_eq-law c.args.a.now c.args.b.now ((elem_decides c.args.a.now c.args.b.now).1 h)
