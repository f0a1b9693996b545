use Rattle.csl_tree.proofs.TreeEqual.{children_decide}
use Rattle.csl_tree.specs.contracts.elem.ElemChildrenHash.TheImpl.Laws.{respects_eq-law}
use Rattle.csl_laws.proofs.trees.same_tree.Goals as goal

pub returns-clause-hashed : goal.returns-clause-hashed
returns-clause-hashed c = λ h. respects_eq-law c.args.a.now c.args.b.now ((children_decide c.args.a.now c.args.b.now).1 h)
