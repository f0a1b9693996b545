-- The classes of characters that the parsers skip or take, and the result of one such step.
use Rattle.std.specs.Prelude.{ℕ, Bool, List, Option, option_map, chars}
use denote.Ref.{Bor}
use Rattle.std.specs.Char.{is_ascii_digit, is_whitespace}
use Rattle.lit_model.specs.declared.scan.Class.{Class}
use Rattle.lit_model.specs.declared.scan.Class.TheVariants.{Blank, Digit, Affix, PageAffix}
use Rattle.lit_model.specs.Numeric.{is_affix}
use Rattle.lit_model.specs.Page.{is_page_affix}

-- whether a character is of the class
abbrev pub passes : Class → ℕ → Bool
passes Blank = is_whitespace
passes Digit = is_ascii_digit
passes Affix = is_affix
passes PageAffix = is_page_affix

-- the value that was read, and the characters after it
abbrev pub read_view : {A : Type 0} → Option (A × Bor (List ℕ)) → Option (A × List ℕ)
read_view o = option_map (λ x. (x.0, chars x.1.now)) o
