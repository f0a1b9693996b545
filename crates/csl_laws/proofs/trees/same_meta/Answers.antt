use Rattle.csl_tree.proofs.MetaEqual.{meta_decides}
use Rattle.csl_tree.specs.contracts.elem.ElemMetaHash.TheImpl.Laws.{respects_eq-law}
use Rattle.csl_laws.proofs.trees.same_meta.Goals as goal

pub returns-clause-hashed : goal.returns-clause-hashed
returns-clause-hashed c = λ h. respects_eq-law c.args.a.now c.args.b.now ((meta_decides c.args.a.now c.args.b.now).1 h)
