-- The text of a number in a form (CSL 1.0.2, Number, `form`; Ordinals). A number with a prefix or a
-- suffix has the text that `Display` writes. Otherwise each number has its own text:
-- - Numeric: the number in decimal.
-- - Ordinal: the number, then the suffix that the locale has for it, if any.
-- - LongOrdinal: the word that the locale has for 1 to 10, else as Ordinal.
-- - Roman: a lower-case roman numeral for 1 to 3999, else the number in decimal.
use Rattle.std.specs.Prelude.{ℕ, if◌then◌else◌, List, [], ◌++◌, ℤ, pos, negsuc, Option, unwrap_or}
use Rattle.std.specs.Fmt.{signed_decimal}
use Rattle.csl_common.specs.declared.form.NumberForm.{NumberForm}
use Rattle.csl_common.specs.declared.form.NumberForm.TheVariants as forms
use Rattle.csl_common.specs.declared.ordinal.GrammarGender.{GrammarGender}
use Rattle.csl_common.specs.Ordinal.{OrdinalTexts, has_long_ordinal}
use Rattle.lit_model.specs.Numeric.{NumericView, is_bare}
use Rattle.lit_model.specs.NumericWrite.{value_text, numeric_text}
use Rattle.lit_model.specs.Roman.{roman, has_roman}

-- the number as a lower-case roman numeral if it has one, else in decimal
abbrev pub roman_text : ℤ → List ℕ
roman_text (pos n) = if has_roman n then roman n else signed_decimal (pos n)
roman_text (negsuc n) = signed_decimal (negsuc n)

-- the number, and the suffix of its ordinal if there is one
abbrev pub ordinal_text : OrdinalTexts → Option GrammarGender → ℤ → List ℕ
ordinal_text ordinals gender n = signed_decimal n ++ unwrap_or (ordinals n gender) []

-- the long ordinal if there is one, else the ordinal
abbrev pub long_ordinal_text : OrdinalTexts → OrdinalTexts → Option GrammarGender → ℤ → List ℕ
long_ordinal_text ordinals long gender n = if has_long_ordinal n then unwrap_or (long n gender) (ordinal_text ordinals gender n) else ordinal_text ordinals gender n

-- a number in a form
abbrev pub form_text : OrdinalTexts → OrdinalTexts → NumberForm → Option GrammarGender → ℤ → List ℕ
form_text ordinals long forms.Numeric gender n = signed_decimal n
form_text ordinals long forms.Ordinal gender n = ordinal_text ordinals gender n
form_text ordinals long forms.LongOrdinal gender n = long_ordinal_text ordinals long gender n
form_text ordinals long forms.Roman gender n = roman_text n

-- numbers in a form, number by number; with a prefix or a suffix, the text of `Display`
abbrev pub numeric_in_form : OrdinalTexts → OrdinalTexts → NumberForm → Option GrammarGender → NumericView → List ℕ
numeric_in_form ordinals long form gender v = if is_bare v then value_text (form_text ordinals long form gender) v.value else numeric_text v
