-- The parser is complete: if characters spell a value, it reads that value.
use Rattle.std.proofs.Common.{◌≡◌, ℕ, suc, ◌<◌, ◌^◌, Bool, true, false, List, [], ◌∷◌, ◌++◌, length, Option, Some, None, ℤ, pos, count_by, refl, sym, ap, ◌∙◌, subst, append_assoc, arith}
use Rattle.std.specs.Char.{is_ascii_digit, is_whitespace}
use Rattle.std.specs.Str.Parse.{digits_value}
use Rattle.std.proofs.lemmas.Bool.{lt-ltb}
use Rattle.std.proofs.lemmas.List.{append-nil}
use Rattle.lit_model.specs.declared.numeric.NumericDelimiter.{NumericDelimiter}
use Rattle.lit_model.specs.declared.numeric.NumericDelimiter.TheVariants.{Comma, Ampersand, Hyphen}
use Rattle.lit_model.specs.Numeric.{ValueView, one, several, NumericView, AllChars, IsBlank, is_affix, is_delimiter, delimiter_char, SpellsInteger, SpellsIntegers, SpellsValue, SpellsAffix, Spells}
use Rattle.lit_model.specs.NumericParse.{after_longest_prefix, integer_from, integer_at, delimiter_of, delimiter_at, integers_at, value_at, text_from, affix_from, is_blank, numeric_from}
use Rattle.lit_model.proofs.Classes.{excluded, affix_is_other, digit_is_no_space, digit_is_no_delimiter, delimiter_is_no_space}
use Rattle.lit_model.proofs.Pieces.{Stops, front_is, after_is, stops_by, stops_first, count_none, count_append, count_yes}
use Rattle.lit_model.proofs.Sound.{encodes_some}

abbrev Numbers : Type 0
Numbers = List (ℤ × Option NumericDelimiter)

-- ---- classes that exclude each other

pub space_is_no_digit : (c : ℕ) → is_whitespace c ≡ true → is_ascii_digit c ≡ false
space_is_no_digit c h = excluded (is_ascii_digit c) (is_whitespace c) (digit_is_no_space c) h

space_is_no_delimiter : (c : ℕ) → is_whitespace c ≡ true → is_delimiter c ≡ false
space_is_no_delimiter c h = excluded (is_delimiter c) (is_whitespace c) (delimiter_is_no_space c) h

space_is_no_affix : (c : ℕ) → is_whitespace c ≡ true → is_affix c ≡ false
space_is_no_affix c h = excluded (is_affix c) (is_whitespace c) (λ e. (affix_is_other c e).1) h

digit_is_no_affix : (c : ℕ) → is_ascii_digit c ≡ true → is_affix c ≡ false
digit_is_no_affix c h = excluded (is_affix c) (is_ascii_digit c) (λ e. (affix_is_other c e).0) h

-- ---- one number

integer_from_digits : (ds : List ℕ) → 0 < length ds → digits_value 10 ds < 2 ^ 31 → integer_from ds ≡ Some (pos (digits_value 10 ds))
integer_from_digits [] h lt = absurd (omega arith)
integer_from_digits (d ∷ ds) h lt = rw (lt-ltb _ _ lt) refl

pub integer_complete : (n : ℤ) (cs tail : List ℕ) → SpellsInteger n cs → Stops is_ascii_digit tail → integer_at (cs ++ tail) ≡ Some (n, tail)
unfolding integer_at
integer_complete n cs tail s stops =
    rw (front_is is_ascii_digit cs tail s.digits stops, after_is is_ascii_digit cs tail s.digits stops, integer_from_digits cs s.nonempty s.fits, s.is) refl

-- ---- a delimiter

pub delimiter_of_char : (d : NumericDelimiter) → delimiter_of (delimiter_char d) ≡ Some d
delimiter_of_char Comma = refl
delimiter_of_char Ampersand = refl
delimiter_of_char Hyphen = refl

pub delimiter_char_is : (d : NumericDelimiter) → is_delimiter (delimiter_char d) ≡ true
delimiter_char_is Comma = refl
delimiter_char_is Ampersand = refl
delimiter_char_is Hyphen = refl

pub delimiter_complete : (d : NumericDelimiter) (before after rest : List ℕ) → IsBlank before → IsBlank after → Stops is_whitespace rest → delimiter_at (before ++ (delimiter_char d ∷ (after ++ rest))) ≡ Some (d, rest)
unfolding delimiter_at
delimiter_complete d before after rest blank_before blank_after stops =
    let sep : is_whitespace (delimiter_char d) ≡ false = delimiter_is_no_space (delimiter_char d) (delimiter_char_is d) in
    rw (after_is is_whitespace before (delimiter_char d ∷ (after ++ rest)) blank_before sep, delimiter_of_char d, after_is is_whitespace after rest blank_after stops) refl

-- ---- several numbers

-- a list of numbers begins with a digit
pub begins_with_digit : (p : ℕ → Bool) (xs : Numbers) (cs tail : List ℕ) → ((c : ℕ) → is_ascii_digit c ≡ true → p c ≡ false) → SpellsIntegers xs cs → Stops p (cs ++ tail)
begins_with_digit p [] cs tail apart s = absurd s
begins_with_digit p (x ∷ []) cs tail apart s = stops_first p is_ascii_digit cs tail apart s.1.digits s.1.nonempty
begins_with_digit p (x ∷ y ∷ more) cs tail apart (d, digits, before, after, rest, has, whole, spelled, blank_before, blank_after, others) =
    let tail' = before ++ (delimiter_char d ∷ (after ++ rest)) in
    subst (λ (z : List ℕ). Stops p (z ++ tail)) (sym whole)
    (subst (Stops p) (sym (append_assoc digits tail' tail)) (stops_first p is_ascii_digit digits (tail' ++ tail) apart spelled.digits spelled.nonempty))

-- white space or a delimiter ends a run of digits
gap_ends_digits : (d : NumericDelimiter) (before rest : List ℕ) → IsBlank before → Stops is_ascii_digit (before ++ (delimiter_char d ∷ rest))
gap_ends_digits d before rest blank =
    let sep : is_ascii_digit (delimiter_char d) ≡ false = excluded (is_ascii_digit (delimiter_char d)) (is_delimiter (delimiter_char d)) (digit_is_no_delimiter (delimiter_char d)) (delimiter_char_is d) in
    stops_by is_ascii_digit is_whitespace before (delimiter_char d ∷ rest) space_is_no_digit blank sep

regroup : (digits before after rest tail : List ℕ) (c : ℕ) → (digits ++ (before ++ (c ∷ (after ++ rest)))) ++ tail ≡ digits ++ (before ++ (c ∷ (after ++ (rest ++ tail))))
regroup digits before after rest tail c =
    append_assoc digits (before ++ (c ∷ (after ++ rest))) tail
    ∙ ap (λ (x : List ℕ). digits ++ x) (append_assoc before (c ∷ (after ++ rest)) tail ∙ ap (λ (x : List ℕ). before ++ (c ∷ x)) (append_assoc after rest tail))

pub integers_complete : (x : ℤ × Option NumericDelimiter) (more : Numbers) (cs tail : List ℕ) → SpellsIntegers (x ∷ more) cs → Stops is_ascii_digit tail → integers_at (length more) (cs ++ tail) ≡ Some (x ∷ more, tail)
unfolding integers_at
integers_complete x [] cs tail s stops =
    rw (integer_complete x.0 cs tail s.1 stops) (ap (λ (o : Option NumericDelimiter). Some ((x.0, o) ∷ [], tail)) (sym s.0))
integers_complete x (y ∷ more) cs tail (d, digits, before, after, rest, has, whole, spelled, blank_before, blank_after, others) stops =
    let grouped = ap (λ (z : List ℕ). z ++ tail) whole ∙ regroup digits before after rest tail (delimiter_char d) in
    let first = integer_complete x.0 digits (before ++ (delimiter_char d ∷ (after ++ (rest ++ tail)))) spelled (gap_ends_digits d before (after ++ (rest ++ tail)) blank_before) in
    let second = delimiter_complete d before after (rest ++ tail) blank_before blank_after (begins_with_digit is_whitespace (y ∷ more) rest tail digit_is_no_space others) in
    let third = integers_complete y more rest tail others stops in
    ap (integers_at (suc (length more))) grouped ∙ rw (first, second, third) (ap (λ (o : Option NumericDelimiter). Some ((x.0, o) ∷ y ∷ more, tail)) (sym has))

-- the text of several numbers has one delimiter fewer than numbers
pub count_integers : (x : ℤ × Option NumericDelimiter) (more : Numbers) (cs : List ℕ) → SpellsIntegers (x ∷ more) cs → count_by is_delimiter cs ≡ length more
count_integers x [] cs s = count_none is_delimiter is_ascii_digit cs digit_is_no_delimiter s.1.digits
count_integers x (y ∷ more) cs (d, digits, before, after, rest, has, whole, spelled, blank_before, blank_after, others) =
    let a = count_none is_delimiter is_ascii_digit digits digit_is_no_delimiter spelled.digits in
    let b = count_none is_delimiter is_whitespace before space_is_no_delimiter blank_before in
    let c = count_none is_delimiter is_whitespace after space_is_no_delimiter blank_after in
    let r = count_integers y more rest others in
    let sep : is_delimiter (delimiter_char d) ≡ true = delimiter_char_is d in
    let inner : count_by is_delimiter (delimiter_char d ∷ (after ++ rest)) ≡ suc (length more) = count_yes is_delimiter (delimiter_char d) (after ++ rest) sep ∙ ap suc (omega (arith, count_append is_delimiter after rest, c, r)) in
    ap (count_by is_delimiter) whole ∙ omega (arith, count_append is_delimiter digits (before ++ (delimiter_char d ∷ (after ++ rest))), count_append is_delimiter before (delimiter_char d ∷ (after ++ rest)), a, b, inner)

-- ---- a number with its prefix and suffix

pub value_complete : (v : ValueView) (cs tail : List ℕ) → SpellsValue v cs → Stops is_ascii_digit tail → value_at (count_by is_delimiter cs) (cs ++ tail) ≡ Some (v, tail)
unfolding value_at
value_complete (one n) cs tail s stops = rw (count_none is_delimiter is_ascii_digit cs digit_is_no_delimiter s.digits, integer_complete n cs tail s stops) refl
value_complete (several []) cs tail s stops = absurd s.1
value_complete (several (x ∷ [])) cs tail s stops = absurd (omega (arith, s.0))
value_complete (several (x ∷ y ∷ more)) cs tail s stops = rw (count_integers x (y ∷ more) cs s.1, integers_complete x (y ∷ more) cs tail s.1 stops) refl

value_stops : (p : ℕ → Bool) (v : ValueView) (cs tail : List ℕ) → ((c : ℕ) → is_ascii_digit c ≡ true → p c ≡ false) → SpellsValue v cs → Stops p (cs ++ tail)
value_stops p (one n) cs tail apart s = stops_first p is_ascii_digit cs tail apart s.digits s.nonempty
value_stops p (several xs) cs tail apart s = begins_with_digit p xs cs tail apart s.1

pub affix_only : (p : ℕ → Bool) (o : Option (List ℕ)) (cs : List ℕ) → SpellsAffix p o cs → AllChars p cs
affix_only p None cs s = subst (AllChars p) (sym s) tt
affix_only p (Some bytes) cs s = s.1

pub affix_complete : (p : ℕ → Bool) (o : Option (List ℕ)) (cs : List ℕ) → SpellsAffix p o cs → affix_from cs ≡ o
affix_complete p None cs s = ap affix_from s
affix_complete p (Some bytes) [] s = absurd (omega (arith, s.0))
affix_complete p (Some bytes) (c ∷ cs) s =
    let e = encodes_some c cs in
    ap text_from e.2 ∙ ap Some (sym e.2 ∙ sym s.2)

pub blank_complete : (cs : List ℕ) → IsBlank cs → is_blank cs ≡ true
blank_complete cs blank =
    let none : after_longest_prefix is_whitespace cs ≡ [] = ap (after_longest_prefix is_whitespace) (sym (append-nil cs)) ∙ after_is is_whitespace cs [] blank tt in
    rw none refl

count_affix : (o : Option (List ℕ)) (cs : List ℕ) → SpellsAffix is_affix o cs → count_by is_delimiter cs ≡ 0
count_affix o cs s = count_none is_delimiter is_affix cs (λ c h. (affix_is_other c h).2) (affix_only is_affix o cs s)

count_whole : (v : NumericView) (cs : List ℕ) (s : Spells v cs) → count_by is_delimiter cs ≡ count_by is_delimiter s.numbers
count_whole v cs s =
    let a = count_none is_delimiter is_whitespace s.before space_is_no_delimiter s.blank_before in
    let b = count_affix v.prefix s.prefix s.has_prefix in
    let c = count_affix v.suffix s.suffix s.has_suffix in
    let d = count_none is_delimiter is_whitespace s.after space_is_no_delimiter s.blank_after in
    ap (count_by is_delimiter) s.whole
    ∙ omega (arith, count_append is_delimiter s.before (s.prefix ++ (s.numbers ++ (s.suffix ++ s.after))), count_append is_delimiter s.prefix (s.numbers ++ (s.suffix ++ s.after)), count_append is_delimiter s.numbers (s.suffix ++ s.after), count_append is_delimiter s.suffix s.after, a, b, c, d)

pub blank_stops : (p : ℕ → Bool) (cs : List ℕ) → ((c : ℕ) → is_whitespace c ≡ true → p c ≡ false) → IsBlank cs → Stops p cs
blank_stops p [] apart blank = tt
blank_stops p (c ∷ cs) apart blank = apart c blank.0

-- if characters spell a value, the parser reads it
pub numeric_complete : (v : NumericView) (cs : List ℕ) → Spells v cs → numeric_from cs ≡ Some v
unfolding numeric_from
numeric_complete v cs s =
    let ends = s.suffix ++ s.after in
    let rest = s.numbers ++ ends in
    let affix : AllChars is_affix s.prefix = affix_only is_affix v.prefix s.prefix s.has_prefix in
    let affix' : AllChars is_affix s.suffix = affix_only is_affix v.suffix s.suffix s.has_suffix in
    let ends_digits : Stops is_ascii_digit ends = stops_by is_ascii_digit is_affix s.suffix s.after (λ c h. (affix_is_other c h).0) affix' (blank_stops is_ascii_digit s.after space_is_no_digit s.blank_after) in
    let ends_suffix : Stops is_affix s.after = blank_stops is_affix s.after space_is_no_affix s.blank_after in
    let ends_prefix : Stops is_affix rest = value_stops is_affix v.value s.numbers ends digit_is_no_affix s.has_value in
    let ends_blank : Stops is_whitespace (s.prefix ++ rest) = stops_by is_whitespace is_affix s.prefix rest (λ c h. (affix_is_other c h).1) affix (value_stops is_whitespace v.value s.numbers ends digit_is_no_space s.has_value) in
    let start : after_longest_prefix is_whitespace cs ≡ s.prefix ++ rest = ap (after_longest_prefix is_whitespace) s.whole ∙ after_is is_whitespace s.before (s.prefix ++ rest) s.blank_before ends_blank in
    let value : value_at (count_by is_delimiter s.numbers) rest ≡ Some (v.value, ends) = value_complete v.value s.numbers ends s.has_value ends_digits in
    rw (
      count_whole v cs s,
      start,
      after_is is_affix s.prefix rest affix ends_prefix,
      front_is is_affix s.prefix rest affix ends_prefix,
      value,
      after_is is_affix s.suffix s.after affix' ends_suffix,
      front_is is_affix s.suffix s.after affix' ends_suffix,
      blank_complete s.after s.blank_after,
      affix_complete is_affix v.prefix s.prefix s.has_prefix,
      affix_complete is_affix v.suffix s.suffix s.has_suffix,
    ) refl
