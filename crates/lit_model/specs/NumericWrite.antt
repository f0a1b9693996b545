-- The text of a number. `Display` writes the prefix, the numbers and the suffix; `fmt_value` leaves
-- out prefix and suffix. Two numbers have `, `, ` & ` or `-` between them. For sorting, each number
-- has zeros before it up to four places, and a minus sign counts as a place, as in Rust's `{:04}`.
use Rattle.std.specs.Prelude.{ℕ, suc, ◌-◌, Bool, true, false, List, [], ◌∷◌, ◌++◌, length, replicate, ℤ, pos, negsuc, Option, Some, None, codes, decimal, unwrap_or}
use Rattle.std.specs.Fmt.{signed_decimal}
use Rattle.std.specs.List.{flat_map}
use Rattle.lit_model.specs.Characters.{hyphen_char, zero_char}
use Rattle.lit_model.specs.declared.numeric.NumericDelimiter.{NumericDelimiter}
use Rattle.lit_model.specs.declared.numeric.NumericDelimiter.TheVariants.{Comma, Ampersand, Hyphen}
use Rattle.lit_model.specs.Numeric.{ValueView, one, several, NumericView}

-- the digits, with zeros before them up to this width
abbrev pub with_zeros : ℕ → List ℕ → List ℕ
with_zeros width digits = replicate (width - length digits) zero_char ++ digits

-- a number for sorting: in at least four places, including the sign
abbrev pub sorted_integer : ℤ → List ℕ
sorted_integer (pos n) = with_zeros 4 (decimal n)
sorted_integer (negsuc n) = hyphen_char ∷ with_zeros 3 (decimal (suc n))

-- a number for sorting, or for display
abbrev pub integer_text : Bool → ℤ → List ℕ
integer_text true n = sorted_integer n
integer_text false n = signed_decimal n

-- the text between two numbers
abbrev pub delimiter_text : Option NumericDelimiter → List ℕ
delimiter_text None = []
delimiter_text (Some Comma) = codes ", "
delimiter_text (Some Ampersand) = codes " & "
delimiter_text (Some Hyphen) = codes "-"

-- the text of each number, with its delimiter
abbrev pub numbers_text : (ℤ → List ℕ) → List (ℤ × Option NumericDelimiter) → List ℕ
numbers_text text numbers = flat_map (λ x. text x.0 ++ delimiter_text x.1) numbers

abbrev pub value_text : (ℤ → List ℕ) → ValueView → List ℕ
value_text text (one n) = text n
value_text text (several numbers) = numbers_text text numbers

-- a number with its prefix and suffix
abbrev pub numeric_text : NumericView → List ℕ
numeric_text v = unwrap_or v.prefix [] ++ (value_text signed_decimal v.value ++ unwrap_or v.suffix [])
