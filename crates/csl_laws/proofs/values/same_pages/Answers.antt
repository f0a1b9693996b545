use Rattle.lit_model.specs.contracts.page.PageRangesHash.TheImpl.Laws.{respects_eq-law}
use Rattle.lit_model.proofs.MaybeEqual.{pages_decide}
use Rattle.csl_laws.proofs.values.same_pages.Goals as goal

pub returns-clause-hashed : goal.returns-clause-hashed
returns-clause-hashed c = λ h. respects_eq-law c.args.a.now c.args.b.now ((pages_decide c.args.a.now c.args.b.now).1 h)
