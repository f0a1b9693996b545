-- Marks and spaces are neither letters nor digits.
use Rattle.std.proofs.Common.{◌≡◌, ◌∙◌, ℕ, Bool, true, false, List, [], ◌∷◌, Option, None, Some, refl, sym, ap, subst}
use Rattle.std.specs.Prelude.{if◌then◌else◌}
use Rattle.std.specs.Char.Unicode.Alphabetic.{is_alphabetic, alphabetic_ranges}
use Rattle.std.specs.Char.Unicode.Numeric.{is_numeric, numeric_ranges}
use Rattle.std.specs.Char.Unicode.Rows.{in_ranges}
use Rattle.csl_finish.specs.declared.letters.Letter.{Letter}
use Rattle.csl_finish.specs.Letters.{is_word_char}
use Rattle.csl_finish.specs.Letters.{placed, word_of}
use Rattle.csl_finish.proofs.Words.{words_push, words-append, placed-append, filter_push}

pub space_is_silent : is_word_char 32 ≡ false
unfolding is_alphabetic alphabetic_ranges is_numeric numeric_ranges in_ranges
space_is_silent = refl

pub exclamation_is_silent : is_word_char 33 ≡ false
unfolding is_alphabetic alphabetic_ranges is_numeric numeric_ranges in_ranges
exclamation_is_silent = refl

pub comma_is_silent : is_word_char 44 ≡ false
unfolding is_alphabetic alphabetic_ranges is_numeric numeric_ranges in_ranges
comma_is_silent = refl

pub period_is_silent : is_word_char 46 ≡ false
unfolding is_alphabetic alphabetic_ranges is_numeric numeric_ranges in_ranges
period_is_silent = refl

pub colon_is_silent : is_word_char 58 ≡ false
unfolding is_alphabetic alphabetic_ranges is_numeric numeric_ranges in_ranges
colon_is_silent = refl

pub semicolon_is_silent : is_word_char 59 ≡ false
unfolding is_alphabetic alphabetic_ranges is_numeric numeric_ranges in_ranges
semicolon_is_silent = refl

pub question_is_silent : is_word_char 63 ≡ false
unfolding is_alphabetic alphabetic_ranges is_numeric numeric_ranges in_ranges
question_is_silent = refl

-- the narrow space, U+202F
pub narrow_space_is_silent : is_word_char 8239 ≡ false
unfolding is_alphabetic alphabetic_ranges is_numeric numeric_ranges in_ranges
narrow_space_is_silent = refl

placed_nothing : (i : Option ℕ) → placed i [] ≡ []
placed_nothing None = refl
placed_nothing (Some k) = refl

pub silent : (l : Letter) → is_word_char l.value ≡ false → word_of l ≡ []
silent l e = ap (λ b. placed l.text (if b then l.value ∷ [] else [])) e ∙ placed_nothing l.text

pub ruleset silent_marks = (silent, space_is_silent, exclamation_is_silent, comma_is_silent, period_is_silent, colon_is_silent, semicolon_is_silent, question_is_silent, narrow_space_is_silent)

pub ruleset pushes = (words_push, placed-append, filter_push, silent)

pub ruleset moving = (words_push, words-append)
