use Rattle.std.proofs.Common.{sym, ◌∙◌}
use Rattle.lit_model.specs.Numeric.{numeric_view}
use Rattle.lit_model.specs.contracts.numeric.Numeric.{the_row}
use Rattle.lit_model.specs.contracts.numeric.NumericPartialEq.TheImpl.{ghosts}
use Rattle.lit_model.specs.contracts.maybe_typed.MaybeTypedPartialEq.TheImpl.{no_dict}
use Rattle.lit_model.proofs.PageEqual.{numeric_decides}
use Rattle.lit_model.proofs.MaybeEqual.{maybe_decides}
use Rattle.csl_laws.proofs.values.same_number_or_text.Goals as goal

pub returns : goal.returns
returns c = let d = maybe_decides the_row ghosts no_dict numeric_view numeric_decides c.args.a.now c.args.b.now in (λ t. d.0 (sym c.eq.ensures ∙ t), λ h. c.eq.ensures ∙ d.1 h)
