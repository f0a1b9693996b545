-- The text of a writable value spells it.
use Rattle.std.proofs.Common.{◌≡◌, ℕ, zero, suc, ◌<◌, ◌^◌, Bool, List, [], ◌∷◌, ◌++◌, length, Option, Some, None, ℤ, pos, negsuc, chars, decimal, encode_utf8_all, refl, sym, ap, ◌∙◌, subst, append_assoc, arith, lit<}
use Rattle.std.specs.Prelude.{IsSome, IsUtf8, IsAscii, unwrap_or}
use Rattle.std.specs.Fmt.{signed_decimal}
use Rattle.std.specs.Str.Parse.{digits_value}
use Rattle.std.proofs.lemmas.List.{append-nil}
use Rattle.std.proofs.lemmas.Fmt.{decimal_nonempty, digits_decimal, digits_value-decimal, IsAscii-decimal}
use Rattle.std.proofs.lemmas.Str.{chars-append, chars-nil, chars-IsAscii, encodes-chars, IsUtf8-from_ascii, IsUtf8-nil, IsAscii-append}
use Rattle.lit_model.specs.declared.numeric.NumericDelimiter.{NumericDelimiter}
use Rattle.lit_model.specs.declared.numeric.NumericDelimiter.TheVariants.{Comma, Ampersand, Hyphen}
use Rattle.lit_model.specs.Numeric.{ValueView, one, several, NumericView, IsBlank, is_affix, delimiter_char, SpellsInteger, SpellsIntegers, SpellsValue, SpellsAffix, Spells, IsWritableInteger, AreWritableIntegers, IsWritableValue, IsWritableAffix, IsWritable}
use Rattle.lit_model.specs.NumericWrite.{delimiter_text, numbers_text, value_text, numeric_text}
use Rattle.lit_model.proofs.Integers.{digits_model}

abbrev pub Numbers : Type 0
Numbers = List (ℤ × Option NumericDelimiter)

-- ---- one number

pub integer_spelled : (n : ℤ) → IsWritableInteger n → SpellsInteger n (signed_decimal n)
integer_spelled (pos n) small =
    let fits : n < 2 ^ 64 = omega arith in
    let value : digits_value 10 (decimal n) ≡ n = digits_value-decimal digits_model n fits in
    record { nonempty = decimal_nonempty n fits; digits = digits_decimal digits_model n fits; fits = omega arith; is = ap pos (sym value) }
integer_spelled (negsuc n) small = absurd small

pub integer_ascii : (n : ℤ) → IsWritableInteger n → IsAscii (signed_decimal n)
integer_ascii (pos n) small = IsAscii-decimal n (omega arith)
integer_ascii (negsuc n) small = absurd small

-- ---- several numbers

-- the white space that is written around a delimiter
abbrev gap_before : NumericDelimiter → List ℕ
gap_before Comma = []
gap_before Ampersand = 32 ∷ []
gap_before Hyphen = []

abbrev gap_behind : NumericDelimiter → List ℕ
gap_behind Comma = 32 ∷ []
gap_behind Ampersand = 32 ∷ []
gap_behind Hyphen = []

blank_gap_before : (d : NumericDelimiter) → IsBlank (gap_before d)
blank_gap_before Comma = tt
blank_gap_before Ampersand = (refl, tt)
blank_gap_before Hyphen = tt

blank_gap_behind : (d : NumericDelimiter) → IsBlank (gap_behind d)
blank_gap_behind Comma = (refl, tt)
blank_gap_behind Ampersand = (refl, tt)
blank_gap_behind Hyphen = tt

delimiter_parts : (d : NumericDelimiter) → delimiter_text (Some d) ≡ gap_before d ++ (delimiter_char d ∷ gap_behind d)
delimiter_parts Comma = refl
delimiter_parts Ampersand = refl
delimiter_parts Hyphen = refl

some_delimiter : (o : Option NumericDelimiter) → IsSome o → (d : NumericDelimiter) × (o ≡ Some d)
some_delimiter None h = cc
some_delimiter (Some d) h = (d, refl)

regroup : (digits before after rest : List ℕ) (c : ℕ) → (digits ++ (before ++ (c ∷ after))) ++ rest ≡ digits ++ (before ++ (c ∷ (after ++ rest)))
regroup digits before after rest c = append_assoc digits (before ++ (c ∷ after)) rest ∙ ap (λ (x : List ℕ). digits ++ x) (append_assoc before (c ∷ after) rest)

pub integers_spelled : (xs : Numbers) → AreWritableIntegers xs → SpellsIntegers xs (numbers_text signed_decimal xs)
integers_spelled [] w = absurd w
integers_spelled (x ∷ []) w =
    let text : numbers_text signed_decimal (x ∷ []) ≡ signed_decimal x.0 =
    append-nil (signed_decimal x.0 ++ delimiter_text x.1) ∙ ap (λ (o : Option NumericDelimiter). signed_decimal x.0 ++ delimiter_text o) w.1 ∙ append-nil (signed_decimal x.0) in
    (w.1, subst (SpellsInteger x.0) (sym text) (integer_spelled x.0 w.0))
integers_spelled (x ∷ y ∷ more) w =
    let has = some_delimiter x.1 w.1 in
    let d = has.0 in
    let rest = numbers_text signed_decimal (y ∷ more) in
    let text : numbers_text signed_decimal (x ∷ y ∷ more) ≡ signed_decimal x.0 ++ (gap_before d ++ (delimiter_char d ∷ (gap_behind d ++ rest))) =
    ap (λ (o : Option NumericDelimiter). (signed_decimal x.0 ++ delimiter_text o) ++ rest) has.1
    ∙ ap (λ (t : List ℕ). (signed_decimal x.0 ++ t) ++ rest) (delimiter_parts d)
    ∙ regroup (signed_decimal x.0) (gap_before d) (gap_behind d) rest (delimiter_char d) in
    (d, signed_decimal x.0, gap_before d, gap_behind d, rest, has.1, text, integer_spelled x.0 w.0, blank_gap_before d, blank_gap_behind d, integers_spelled (y ∷ more) w.2)

pub ascii_cons : (c : ℕ) (cs : List ℕ) → c < 128 → IsAscii cs → IsAscii (c ∷ cs)
ascii_cons c cs h rest zero = h
ascii_cons c cs h rest (suc i) = rest i

pub ascii_nil : IsAscii []
ascii_nil i = omega arith

delimiter_ascii : (o : Option NumericDelimiter) → IsAscii (delimiter_text o)
delimiter_ascii None = ascii_nil
delimiter_ascii (Some Comma) = ascii_cons 44 (32 ∷ []) (lit< tt) (ascii_cons 32 [] (lit< tt) ascii_nil)
delimiter_ascii (Some Ampersand) = ascii_cons 32 (38 ∷ 32 ∷ []) (lit< tt) (ascii_cons 38 (32 ∷ []) (lit< tt) (ascii_cons 32 [] (lit< tt) ascii_nil))
delimiter_ascii (Some Hyphen) = ascii_cons 45 [] (lit< tt) ascii_nil

pub integers_ascii : (xs : Numbers) → AreWritableIntegers xs → IsAscii (numbers_text signed_decimal xs)
integers_ascii [] w = absurd w
integers_ascii (x ∷ []) w = IsAscii-append (signed_decimal x.0 ++ delimiter_text x.1) [] (IsAscii-append (signed_decimal x.0) (delimiter_text x.1) (integer_ascii x.0 w.0) (delimiter_ascii x.1)) ascii_nil
integers_ascii (x ∷ y ∷ more) w = IsAscii-append (signed_decimal x.0 ++ delimiter_text x.1) (numbers_text signed_decimal (y ∷ more)) (IsAscii-append (signed_decimal x.0) (delimiter_text x.1) (integer_ascii x.0 w.0) (delimiter_ascii x.1)) (integers_ascii (y ∷ more) w.2)

-- ---- a number with its prefix and suffix

value_spelled : (v : ValueView) → IsWritableValue v → SpellsValue v (value_text signed_decimal v)
value_spelled (one n) w = integer_spelled n w
value_spelled (several xs) w = (w.0, integers_spelled xs w.1)

value_ascii : (v : ValueView) → IsWritableValue v → IsAscii (value_text signed_decimal v)
value_ascii (one n) w = integer_ascii n w
value_ascii (several xs) w = integers_ascii xs w.1

pub affix_utf8 : (p : ℕ → Bool) (o : Option (List ℕ)) → IsWritableAffix p o → IsUtf8 (unwrap_or o [])
affix_utf8 p None w = IsUtf8-nil
affix_utf8 p (Some bytes) w = w.0

chars_nonempty : (bytes cs : List ℕ) → encode_utf8_all cs ≡ bytes → 0 < length bytes → 0 < length cs
chars_nonempty bytes [] e h = absurd (omega (arith, ap length e))
chars_nonempty bytes (c ∷ cs) e h = omega arith

pub affix_spelled : (p : ℕ → Bool) (o : Option (List ℕ)) → IsWritableAffix p o → SpellsAffix p o (chars (unwrap_or o []))
affix_spelled p None w = chars-nil
affix_spelled p (Some bytes) w = (chars_nonempty bytes (chars bytes) (encodes-chars bytes w.0) w.1, w.2, sym (encodes-chars bytes w.0))

-- the text of a writable value spells it
pub numeric_spelled : (v : NumericView) → IsWritable v → Spells v (chars (numeric_text v))
numeric_spelled v w =
    let prefix = unwrap_or v.prefix [] in
    let value = value_text signed_decimal v.value in
    let suffix = unwrap_or v.suffix [] in
    let ascii = value_ascii v.value w.value in
    let all : chars (numeric_text v) ≡ chars prefix ++ (value ++ chars suffix) =
    chars-append prefix (value ++ suffix) (affix_utf8 is_affix v.prefix w.prefix)
    ∙ ap (λ (x : List ℕ). chars prefix ++ x) (chars-append value suffix (IsUtf8-from_ascii value ascii) ∙ ap (λ (x : List ℕ). x ++ chars suffix) (chars-IsAscii value ascii)) in
    record {
      before = [];
      prefix = chars prefix;
      numbers = value;
      suffix = chars suffix;
      after = [];
      whole = all ∙ ap (λ (x : List ℕ). chars prefix ++ (value ++ x)) (sym (append-nil (chars suffix)));
      blank_before = tt;
      has_prefix = affix_spelled is_affix v.prefix w.prefix;
      has_value = value_spelled v.value w.value;
      has_suffix = affix_spelled is_affix v.suffix w.suffix;
      blank_after = tt;
    }
