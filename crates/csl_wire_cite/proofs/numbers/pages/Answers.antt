use Rattle.std.proofs.Common.{◌≡◌, List, sym, subst, chars}
use Rattle.std.specs.Prelude.{string_bytes}
use Rattle.serde_json.specs.View.{view}
use Rattle.lit_model.specs.Page.{PartView, SpellsPages}
use Rattle.lit_model.specs.declared.numeric.error.NumericError.TheVariants.{Memory}
use Rattle.csl_wire_cite.proofs.NoPages.{text_stays}
use Rattle.csl_wire_cite.proofs.numbers.pages.Goals as goal

pub returns-in-Err-NotNumeric : goal.returns-in-Err-NotNumeric
returns-in-Err-NotNumeric c =
    let only : (v : List PartView) → SpellsPages v (chars (string_bytes c.in_ok-text.text)) → c.in-Err-NotNumeric.field-0 ≡ Memory = λ v s. c.in-Err-NotNumeric.ensures.only v (subst (λ t. SpellsPages v (chars t)) (sym c.as_str.ensures.value) s) in
    text_stays (view c.args.value.now) (string_bytes c.in_ok-text.text) c.in-Err-NotNumeric.field-0 c.in_ok-text.ensures.read c.in-Err-NotNumeric.field-0-is only
