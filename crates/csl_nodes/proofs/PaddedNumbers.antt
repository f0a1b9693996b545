-- The text of a number in a hole with zeros, such as `{:02}`: the sign, the missing zeros, and the
-- digits.
use Rattle.std.proofs.Common.{◌≡◌, ℕ, ℤ, pos, negsuc, suc, ◌-◌, true, false, List, [], ◌∷◌, length, arith, append-nil, ap, ◌∙◌}
use Rattle.std.specs.Fmt.{decimal, padded_integral, format_spec, styled_signed_decimal, char_count}
use Rattle.std.specs.Int.{is_negative}
use Rattle.std.proofs.lemmas.Bool.Decides.{nat_tests}
use Rattle.lit_model.specs.NumericWrite.{with_zeros}
use Rattle.csl_nodes.specs.DateKey.{nine_places}

-- without a sign
pub zeros_before : (width : ℕ) (numeral : List ℕ) → padded_integral (format_spec 32 0 4 width 18446744073709551615) false [] numeral ≡ with_zeros width numeral
unfolding padded_integral char_count
zeros_before width numeral =
    let missing : width - length numeral - 0 - 0 ≡ width - length numeral = omega arith in
    rw (missing, append-nil numeral)

-- after a sign, which takes one place
pub zeros_behind_sign : (width : ℕ) (numeral : List ℕ) → padded_integral (format_spec 32 0 4 (suc width) 18446744073709551615) true [] numeral ≡ 45 ∷ with_zeros width numeral
unfolding padded_integral char_count
zeros_behind_sign width numeral =
    let missing : suc width - length numeral - 1 - 0 ≡ width - length numeral = omega arith in
    rw (missing, append-nil numeral)

-- a number with or without a sign
pub nine_places_shown : (n : ℤ) → styled_signed_decimal (format_spec 32 0 4 9 18446744073709551615) n ≡ nine_places n
nine_places_shown (pos n) =
    let no_sign : is_negative (pos n) ≡ false = grind (arith, nat_tests) in
    ap (λ b. padded_integral (format_spec 32 0 4 9 18446744073709551615) b [] (decimal n)) no_sign ∙ zeros_before 9 (decimal n)
nine_places_shown (negsuc n) = zeros_behind_sign 8 (decimal (suc n))
