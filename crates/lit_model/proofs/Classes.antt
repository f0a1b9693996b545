-- No character is in two of the classes: digits, white space, delimiters and affix characters.
use Rattle.std.proofs.Common.{◌≡◌, ℕ, ◌≤◌, Bool, true, false, not, ◌&&◌, refl, sym, ◌∙◌, arith}
use Rattle.std.specs.Char.{is_ascii_digit, is_whitespace}
use Rattle.std.proofs.lemmas.Bool.Decides.{nat_tests}
use Rattle.std.proofs.lemmas.Bool.{false≢true}
use Rattle.lit_model.specs.Numeric.{is_affix, is_delimiter}

-- if one test excludes another, the other excludes it too
pub excluded : (a b : Bool) → (a ≡ true → b ≡ false) → b ≡ true → a ≡ false
excluded true b h e = sym e ∙ h refl
excluded false b h e = refl

three_denied : (a b c : Bool) → (not a && not b) && not c ≡ true → (a ≡ false) × (b ≡ false) × (c ≡ false)
three_denied true b c h = absurd (false≢true h)
three_denied false true c h = absurd (false≢true h)
three_denied false false true h = absurd (false≢true h)
three_denied false false false h = (refl, refl, refl)

pub affix_is_other : (c : ℕ) → is_affix c ≡ true → (is_ascii_digit c ≡ false) × (is_whitespace c ≡ false) × (is_delimiter c ≡ false)
affix_is_other c h = three_denied (is_ascii_digit c) (is_whitespace c) (is_delimiter c) h

pub digit_range : (c : ℕ) → is_ascii_digit c ≡ true → (48 ≤ c) × (c ≤ 57)
digit_range c h = grind (arith, nat_tests)

pub digit_is_no_space : (c : ℕ) → is_ascii_digit c ≡ true → is_whitespace c ≡ false
digit_is_no_space c h = grind (arith, nat_tests)

pub digit_is_no_delimiter : (c : ℕ) → is_ascii_digit c ≡ true → is_delimiter c ≡ false
digit_is_no_delimiter c h = grind (arith, nat_tests)

pub delimiter_is_no_space : (c : ℕ) → is_delimiter c ≡ true → is_whitespace c ≡ false
delimiter_is_no_space c h = grind (arith, nat_tests)
