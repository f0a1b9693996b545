-- The one error type for all crates: what each of their errors becomes, and the text of each. Out
-- of memory is the same error for all of them. A context fails only if memory runs out, so the
-- error of a failed context becomes `Memory` too. `Limit` is the error of a renderer alone.
use Rattle.std.specs.Prelude.{ℕ, List, codes}
use Rattle.csl_style.specs.Style.{refusal_text}
use Rattle.csl_style.specs.declared.style.error.StyleError.{StyleError}
use Rattle.csl_style.specs.declared.style.error.StyleError.TheVariants as style
use Rattle.csl_tree.specs.declared.html_error.HtmlError.{HtmlError}
use Rattle.csl_tree.specs.declared.html_error.HtmlError.TheVariants as html
use Rattle.lit_model.specs.declared.numeric.error.NumericError.{NumericError}
use Rattle.lit_model.specs.declared.numeric.error.NumericError.TheVariants as numeric
use Rattle.csl.specs.declared.error.Error.{Error}
use Rattle.csl.specs.declared.error.Error.TheVariants.{Memory, Limit, NotNumeric, NotHtml, DateOutOfRange, Style, Refused}

abbrev pub of_numeric : NumericError → Error
of_numeric numeric.Memory = Memory
of_numeric numeric.NotNumeric = NotNumeric

abbrev pub of_html : HtmlError → Error
of_html html.Memory = Memory
of_html html.NotHtml = NotHtml

abbrev pub of_style : StyleError → Error
of_style style.Memory = Memory
of_style (style.CyclicMacro name) = Style (style.CyclicMacro name)
of_style style.ChicagoPageFormat = Style style.ChicagoPageFormat

abbrev pub error_text : Error → List ℕ
error_text Memory = codes "out of memory"
error_text Limit = codes "beyond the limit"
error_text NotNumeric = codes "not numeric"
error_text NotHtml = codes "not html"
error_text DateOutOfRange = codes "month or day out of range"
error_text (Style error) = refusal_text error
error_text Refused = codes "a writer refused a text"
