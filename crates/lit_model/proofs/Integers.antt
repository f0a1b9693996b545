-- The integer that digits write.
use Rattle.std.proofs.Common.{◌≡◌, ℕ, ◌<◌, ◌^◌, Bool, true, false, cond, List, [], ◌∷◌, length, encode_utf8_all, Some, None, Result, Ok, Err, ℤ, pos, MatchResult, refl, sym, ap, ◌∙◌, subst, inl, inr, arith, rules}
use Rattle.std.specs.Char.{is_ascii_digit}
use Rattle.std.specs.Int.{w32}
use Rattle.std.specs.Str.Parse.{digits_value, ParsesSigned}
use Rattle.std.specs.Result.{OkIff}
use Rattle.std.proofs.lemmas.Bool.{cases_lt, lt-ltb, le-ltb}
use Rattle.std.proofs.lemmas.Str.{encodes-IsAscii}
use Rattle.std.proofs.lemmas.Fmt.{IsAscii-from_digits}
use Rattle.std.proofs.lemmas.Str.Parse.{IsDigitsTest, IsNumeralModel, numerals_by_value, parse_signed_digits}
use Rattle.lit_model.specs.Numeric.{AllChars}
use Rattle.lit_model.specs.NumericParse.{longest_prefix, integer_from}

only_front_case : (p : ℕ → Bool) (c : ℕ) (cs : List ℕ) (b : Bool) → p c ≡ b → AllChars p (longest_prefix p cs) → AllChars p (cond b (c ∷ longest_prefix p cs) [])
only_front_case p c cs true h rest = (h, rest)
only_front_case p c cs false h rest = tt

-- the characters of the longest front pass the test
pub Only-front : (p : ℕ → Bool) (cs : List ℕ) → AllChars p (longest_prefix p cs)
Only-front p [] = tt
Only-front p (c ∷ cs) = only_front_case p c cs (p c) refl (Only-front p cs)

pub digits_test : IsDigitsTest (AllChars is_ascii_digit)
digits_test = search rules

pub digits_model : IsNumeralModel (AllChars is_ascii_digit) (digits_value 10)
digits_model = numerals_by_value (AllChars is_ascii_digit) digits_test

-- digits are their own UTF-8 bytes
pub encodes-digits : (ds : List ℕ) → AllChars is_ascii_digit ds → encode_utf8_all ds ≡ ds
encodes-digits ds h = encodes-IsAscii ds (IsAscii-from_digits ds (digits_model.to ds h))

integer_from_small : (ds : List ℕ) → 0 < length ds → digits_value 10 ds < 2 ^ 31 → integer_from ds ≡ Some (pos (digits_value 10 ds))
integer_from_small [] h lt = absurd (omega arith)
integer_from_small (d ∷ ds) h lt = rw (lt-ltb _ _ lt) refl

integer_from_none : (ds : List ℕ) → ((0 < length ds) × (digits_value 10 ds < 2 ^ 31) → ⊥) → integer_from ds ≡ None
integer_from_none [] h = refl
integer_from_none (d ∷ ds) h = elim (cases_lt (digits_value 10 (d ∷ ds)) (2 ^ 31)) [
  | inl lt ↦ absurd (h (omega arith, lt))
  | inr le ↦ rw (le-ltb _ _ le) refl
]

-- the result of `parse` for digits agrees with `integer_from`
pub integer_parsed : {E : Type 0} (ds bytes : List ℕ) (r : Result ℤ E) → AllChars is_ascii_digit ds → bytes ≡ encode_utf8_all ds → ParsesSigned w32 10 bytes r → MatchResult r (λ n. integer_from ds ≡ Some n) (λ e. integer_from ds ≡ None)
integer_parsed ds bytes r digits is h =
    let here : ParsesSigned w32 10 ds r = subst (λ (b : List ℕ). ParsesSigned w32 10 b r) (is ∙ encodes-digits ds digits) h in
    of_iff ds r (parse_signed_digits digits_model w32 ds r here digits)
  where
    of_iff : {E : Type 0} (ds : List ℕ) (r : Result ℤ E) → OkIff r ((0 < length ds) × (digits_value 10 ds < 2 ^ 31)) (pos (digits_value 10 ds)) → MatchResult r (λ n. integer_from ds ≡ Some n) (λ e. integer_from ds ≡ None)
    of_iff ds (Ok n) h = integer_from_small ds h.0.0 h.0.1 ∙ ap Some (sym h.1)
    of_iff ds (Err e) h = integer_from_none ds h
