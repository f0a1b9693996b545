use Rattle.csl_tree.proofs.TreeEqual.{child_decides}
use Rattle.csl_tree.specs.contracts.elem.ElemChildHash.TheImpl.Laws.{respects_eq-law}
use Rattle.csl_laws.proofs.trees.same_child.Goals as goal

pub returns-clause-hashed : goal.returns-clause-hashed
returns-clause-hashed c = λ h. respects_eq-law c.args.a.now c.args.b.now ((child_decides c.args.a.now c.args.b.now).1 h)
