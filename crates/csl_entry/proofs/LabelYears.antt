-- The digits of a year in a label.
use Rattle.std.proofs.Common.{◌≡◌, ℕ, ℤ, pos, negsuc, zero, suc, ◌+◌, ◌-◌, ◌/◌, ◌%◌, ◌<◌, ◌≤◌, Bool, true, false, List, [], ◌∷◌, ◌++◌, length, replicate, nat_lt, if◌then◌else◌, refl, sym, ap, subst, ◌∙◌, arith, append-nil}
use Rattle.std.specs.Fmt.{decimal, padded_integral, format_spec, styled_decimal, char_count}
use Rattle.std.proofs.lemmas.Fmt.{decimal_digit, decimal_step, decimal_nonempty}
use Rattle.std.proofs.lemmas.List.{length-append}
use Rattle.std.proofs.lemmas.Bool.Decides.{nat_tests}
use Rattle.csl_entry.specs.CitationLabel.{year_number, two_digits}

-- the placeholder `{:02}` writes the digits, with zeros before them up to two digits
zeros_before : (numeral : List ℕ) → padded_integral (format_spec 32 0 4 2 (18446744073709551615)) false [] numeral ≡ replicate (2 - length numeral) 48 ++ numeral
unfolding padded_integral char_count
zeros_before numeral =
    let short : 2 - length numeral - 0 - 0 ≡ 2 - length numeral = omega arith in
    rw (short, append-nil numeral)

one_digit : (n : ℕ) → n < 10 → replicate (2 - length (decimal n)) 48 ++ decimal n ≡ 48 ∷ decimal n
one_digit n h = rw (decimal_digit n h)

more_digits : (n : ℕ) → 10 ≤ n → n ≤ 100 → replicate (2 - length (decimal n)) 48 ++ decimal n ≡ decimal n
more_digits n h k =
    let front : 0 < length (decimal (n / 10)) = decimal_nonempty (n / 10) (omega arith) in
    let long : length (decimal n) ≡ length (decimal (n / 10)) + 1 = ap length (decimal_step n h (omega arith)) ∙ length-append (decimal (n / 10)) ((48 + n % 10) ∷ []) in
    let none : 2 - length (decimal n) ≡ 0 = omega arith in
    rw none

by_width : (n : ℕ) → n ≤ 100 → (b : Bool) → nat_lt n 10 ≡ b → replicate (2 - length (decimal n)) 48 ++ decimal n ≡ (if b then 48 ∷ decimal n else decimal n)
by_width n k true e = one_digit n (grind (arith, nat_tests, e))
by_width n k false e = more_digits n (grind (arith, nat_tests, e)) k

small : (y : ℤ) → year_number y ≤ 100
small (pos zero) = omega arith
small (pos (suc n)) = omega arith
small (negsuc n) = omega arith

-- the placeholder `{:02}` writes the number of a year in two digits or more
pub year_shown : (y : ℤ) (n : ℕ) → n ≡ year_number y → styled_decimal (format_spec 32 0 4 2 (18446744073709551615)) n ≡ two_digits (year_number y)
year_shown y n e =
    let low : n ≤ 100 = subst (λ m. m ≤ 100) (sym e) (small y) in
    zeros_before (decimal n) ∙ (by_width n low (nat_lt n 10) refl ∙ ap two_digits e)
