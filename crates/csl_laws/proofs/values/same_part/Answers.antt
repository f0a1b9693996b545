use Rattle.lit_model.specs.contracts.page.PageRangesPartHash.TheImpl.Laws.{respects_eq-law}
use Rattle.lit_model.proofs.PageEqual.{part_decides}
use Rattle.csl_laws.proofs.values.same_part.Goals as goal

pub returns-clause-hashed : goal.returns-clause-hashed
returns-clause-hashed c = λ h. respects_eq-law c.args.a.now c.args.b.now ((part_decides c.args.a.now c.args.b.now).1 h)
