-- No character of a page's text is in two classes.
use Rattle.std.proofs.Common.{◌≡◌, ℕ, Bool, true, false, not, ◌&&◌, ◌||◌, eqb, refl, sym, arith}
use Rattle.std.specs.Char.{is_ascii_digit, is_whitespace}
use Rattle.std.proofs.lemmas.Bool.Decides.{nat_tests}
use Rattle.std.proofs.lemmas.Bool.{false≢true}
use Rattle.lit_model.specs.Numeric.{is_affix}
use Rattle.lit_model.specs.Page.{is_page_affix, is_range_mark, is_separator}
use Rattle.lit_model.proofs.Classes.{excluded, affix_is_other}

both : (a b : Bool) → a && not b ≡ true → (a ≡ true) × (b ≡ false)
both true true h = absurd (false≢true h)
both true false h = (refl, refl)
both false b h = absurd (false≢true h)

neither : (a b c : Bool) → (a || b) || c ≡ false → (a ≡ false) × (b ≡ false) × (c ≡ false)
neither true b c h = absurd (false≢true (sym h))
neither false true c h = absurd (false≢true (sym h))
neither false false true h = absurd (false≢true (sym h))
neither false false false h = (refl, refl, refl)

either_false : (a b : Bool) → a ≡ false → b ≡ false → a || b ≡ false
either_false a b e f = rw (e, f) refl

-- an affix character is no digit, no white space, no separator and no range mark
pub page_affix_is_other : (c : ℕ) → is_page_affix c ≡ true → (is_ascii_digit c ≡ false) × (is_whitespace c ≡ false) × (is_separator c ≡ false) × (is_range_mark c ≡ false)
page_affix_is_other c h =
    let parts = both (is_affix c) (eqb c 0x2013) h in
    let other = affix_is_other c parts.0 in
    let no = neither (eqb c 44) (eqb c 38) (eqb c 45) other.2 in
    (other.0, other.1, either_false (eqb c 44) (eqb c 38) no.0 no.1, either_false (eqb c 45) (eqb c 0x2013) no.2 parts.1)

-- a range mark is no digit, no white space, no separator and no affix character
pub mark_is_no_digit : (c : ℕ) → is_range_mark c ≡ true → is_ascii_digit c ≡ false
mark_is_no_digit c h = grind (arith, nat_tests)

pub mark_is_no_space : (c : ℕ) → is_range_mark c ≡ true → is_whitespace c ≡ false
mark_is_no_space c h = grind (arith, nat_tests)

pub mark_is_no_separator : (c : ℕ) → is_range_mark c ≡ true → is_separator c ≡ false
mark_is_no_separator c h = grind (arith, nat_tests)

pub mark_is_no_affix : (c : ℕ) → is_range_mark c ≡ true → is_page_affix c ≡ false
mark_is_no_affix c h = excluded (is_page_affix c) (is_range_mark c) (λ e. (page_affix_is_other c e).3) h

-- a separator is no digit, no white space, no range mark and no affix character
pub separator_is_no_digit : (c : ℕ) → is_separator c ≡ true → is_ascii_digit c ≡ false
separator_is_no_digit c h = grind (arith, nat_tests)

pub separator_is_no_space : (c : ℕ) → is_separator c ≡ true → is_whitespace c ≡ false
separator_is_no_space c h = grind (arith, nat_tests)

pub separator_is_no_mark : (c : ℕ) → is_separator c ≡ true → is_range_mark c ≡ false
separator_is_no_mark c h = excluded (is_range_mark c) (is_separator c) (mark_is_no_separator c) h

pub separator_is_no_affix : (c : ℕ) → is_separator c ≡ true → is_page_affix c ≡ false
separator_is_no_affix c h = excluded (is_page_affix c) (is_separator c) (λ e. (page_affix_is_other c e).2) h

-- a digit is no affix character and no separator
pub digit_is_no_page_affix : (c : ℕ) → is_ascii_digit c ≡ true → is_page_affix c ≡ false
digit_is_no_page_affix c h = excluded (is_page_affix c) (is_ascii_digit c) (λ e. (page_affix_is_other c e).0) h

pub digit_is_no_separator : (c : ℕ) → is_ascii_digit c ≡ true → is_separator c ≡ false
digit_is_no_separator c h = excluded (is_separator c) (is_ascii_digit c) (separator_is_no_digit c) h

-- white space is no affix character and no separator
pub space_is_no_page_affix : (c : ℕ) → is_whitespace c ≡ true → is_page_affix c ≡ false
space_is_no_page_affix c h = excluded (is_page_affix c) (is_whitespace c) (λ e. (page_affix_is_other c e).1) h

pub space_is_no_separator : (c : ℕ) → is_whitespace c ≡ true → is_separator c ≡ false
space_is_no_separator c h = excluded (is_separator c) (is_whitespace c) (separator_is_no_space c) h
