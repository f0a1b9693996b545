-- The results of the constructors of a style's nodes: nodes that have the given parts and set
-- nothing else.
use Rattle.std.specs.Prelude.{ℕ, List, Vec, Some, None, false}
use Rattle.std.specs.declared.alloc.Global.{Global}
use Rattle.csl_common.specs.declared.form.LongShortForm.TheVariants.{Long as LongForm}
use Rattle.csl_common.specs.declared.form.NumberForm.TheVariants.{Numeric}
use Rattle.csl_elements.specs.declared.affixes.Affixes.{Affixes}
use Rattle.csl_elements.specs.declared.formatting.Formatting.{Formatting}
use Rattle.csl_elements.specs.declared.formatting.FontStyle.TheVariants.{Italic}
use Rattle.csl_elements.specs.declared.number.Number.{Number}
use Rattle.csl_elements.specs.declared.number.Label.{Label}
use Rattle.csl_elements.specs.declared.number.VariablelessLabel.{VariablelessLabel}
use Rattle.csl_elements.specs.declared.number.LabelPluralize.TheVariants.{Contextual}
use Rattle.csl_elements.specs.declared.date.Date.{Date}
use Rattle.csl_elements.specs.declared.date.DateForm.{DateForm}
use Rattle.csl_elements.specs.declared.date.DatePart.{DatePart}
use Rattle.csl_elements.specs.declared.date.DatePartName.{DatePartName}
use Rattle.csl_elements.specs.declared.taxonomy.DateVariable.{DateVariable}
use Rattle.csl_elements.specs.declared.taxonomy.NumberOrPageVariable.{NumberOrPageVariable}
use Rattle.csl_elements.specs.declared.taxonomy.Variable.{Variable}
use Rattle.csl_elements.specs.declared.term.Term.{Term}
use Rattle.csl_elements.specs.declared.term.TermForm.TheVariants.{Long, Short}
use Rattle.csl_elements.specs.declared.text.Text.{Text}
use Rattle.csl_elements.specs.declared.text.TextTarget.{TextTarget}
use Rattle.csl_elements.specs.declared.text.TextTarget.TheVariants as target
use Rattle.csl_elements.specs.declared.element.LayoutRenderingElement.{LayoutRenderingElement}
use Rattle.csl_elements.specs.declared.element.Layout.{Layout}
use Rattle.csl_elements.specs.declared.element.ChooseMatch.TheVariants.{All}
use Rattle.csl_elements.specs.Dressing.{AffixTexts, Dressing, dressing_of}
use Rattle.csl_elements.specs.Node.{Tests}
use Rattle.csl_elements.specs.NamesParts.{no_formatting}

-- ---- attributes

-- neither a prefix nor a suffix
abbrev pub no_affixes : Affixes
no_affixes = record { prefix = None; suffix = None }

abbrev pub text_before : List ℕ → AffixTexts
text_before prefix = record { prefix = Some prefix; suffix = None }

abbrev pub text_after : List ℕ → AffixTexts
text_after suffix = record { prefix = None; suffix = Some suffix }

abbrev pub texts_around : List ℕ → List ℕ → AffixTexts
texts_around prefix suffix = record { prefix = Some prefix; suffix = Some suffix }

abbrev pub italic : Formatting
italic = record no_formatting { font_style = Some Italic }

abbrev pub no_dressing : Dressing
no_dressing = dressing_of no_formatting no_affixes None

-- ---- texts

abbrev pub text_of_target : TextTarget → Text
text_of_target t = record {
  target = t;
  formatting = no_formatting;
  affixes = no_affixes;
  display = None;
  quotes = false;
  strip_periods = false;
}

abbrev pub text_of_variable : Variable → Text
text_of_variable v = text_of_target (target.Variable v LongForm)

-- the term is in the long form and the singular
abbrev pub text_of_term : Term → Text
text_of_term t = text_of_target (target.Term t Long false)

-- ---- numbers and labels

abbrev pub number_of : NumberOrPageVariable → Number
number_of v = record { variable = v; form = Numeric; formatting = no_formatting; affixes = no_affixes; display = None }

-- a label that sets nothing, without its variable
abbrev pub plain_label : VariablelessLabel
plain_label = record { form = Long; plural = Contextual; formatting = no_formatting; affixes = no_affixes; strip_periods = false }

abbrev pub label_of : NumberOrPageVariable → Label
label_of v = record { variable = v; label = plain_label }

abbrev pub short_label_of : NumberOrPageVariable → Label
short_label_of v = record { variable = v; label = record plain_label { form = Short } }

-- ---- dates

abbrev pub date_part_of : DatePartName → DatePart
date_part_of name = record { name = name; form = None; formatting = no_formatting; affixes = no_affixes; strip_periods = false }

abbrev pub date_of_parts : Vec DatePart Global → Date
date_of_parts parts = record {
  variable = None;
  form = None;
  parts = None;
  date_part = parts;
  delimiter = None;
  formatting = no_formatting;
  affixes = no_affixes;
  display = None;
}

abbrev pub date_of : DateVariable → Vec DatePart Global → Date
date_of v parts = record (date_of_parts parts) { variable = Some v }

-- a date of a locale, which has no variable
abbrev pub localized_date_of : DateForm → Vec DatePart Global → Date
localized_date_of form parts = record (date_of_parts parts) { form = Some form }

-- ---- layouts and branches

abbrev pub plain_layout : Vec LayoutRenderingElement Global → Layout
plain_layout elements = record { elements = elements; delimiter = None; formatting = no_formatting }

-- the tests of a branch that sets none
abbrev pub no_tests : Tests
no_tests = record {
  disambiguate = None;
  is_numeric = None;
  is_uncertain_date = None;
  locator = None;
  position = None;
  type_ = None;
  variable = None;
  match_ = All;
}
