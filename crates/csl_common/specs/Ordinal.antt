-- The ordinals of a locale (CSL 1.0.2, Ordinals): for a number and a gender a text, or none. Only a
-- number from 1 to 10 may have a long ordinal.
use Rattle.std.specs.Prelude.{ℕ, ℤ, pos, Bool, ◌&&◌, int_le, List, Option}
use Rattle.csl_common.specs.declared.ordinal.GrammarGender.{GrammarGender}

-- the text of a locale for a number and a gender: the suffix of the ordinal, or the whole long
-- ordinal
abbrev pub OrdinalTexts : Type 0
OrdinalTexts = ℤ → Option GrammarGender → Option (List ℕ)

-- the numbers that may have a long ordinal
abbrev pub has_long_ordinal : ℤ → Bool
has_long_ordinal n = int_le (pos 1) n && int_le n (pos 10)
