use Rattle.std.proofs.Common.{sym, ◌∙◌}
use Rattle.lit_model.specs.Page.{pages_view}
use Rattle.lit_model.specs.contracts.page.PageRanges.{the_row}
use Rattle.lit_model.specs.contracts.page.PageRangesPartialEq.TheImpl.{ghosts}
use Rattle.lit_model.specs.contracts.maybe_typed.MaybeTypedPartialEq.TheImpl.{no_dict}
use Rattle.lit_model.proofs.MaybeEqual.{maybe_decides, pages_decide}
use Rattle.csl_laws.proofs.values.same_pages_or_text.Goals as goal

pub returns : goal.returns
returns c = let d = maybe_decides the_row ghosts no_dict pages_view pages_decide c.args.a.now c.args.b.now in (λ t. d.0 (sym c.eq.ensures ∙ t), λ h. c.eq.ensures ∙ d.1 h)
