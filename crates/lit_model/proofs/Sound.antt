-- The parser is sound: if it reads a value, the characters spell it.
use Rattle.std.proofs.Common.{◌≡◌, ℕ, zero, suc, ◌<◌, ◌^◌, Bool, true, cond, List, [], ◌∷◌, ◌++◌, length, Option, Some, None, ℤ, pos, count_by, encode_utf8_all, refl, sym, ap, ◌∙◌, subst, append_assoc, inl, inr, arith}
use Rattle.std.specs.Prelude.{nat_lt, nat_eq, drop}
use Rattle.std.specs.Char.{is_ascii_digit, is_whitespace}
use Rattle.std.specs.Str.Parse.{digits_value}
use Rattle.std.proofs.lemmas.Option.{cond_some}
use Rattle.std.proofs.lemmas.Str.{length-le-encodes}
use Rattle.std.proofs.lemmas.Bool.{ltb-true, eqb-true}
use Rattle.std.proofs.lemmas.List.{append-nil, nil_from_length}
use Rattle.lit_model.specs.declared.numeric.NumericDelimiter.{NumericDelimiter}
use Rattle.lit_model.specs.declared.numeric.NumericDelimiter.TheVariants.{Comma, Ampersand, Hyphen}
use Rattle.lit_model.specs.Numeric.{ValueView, one, several, NumericView, AllChars, IsBlank, is_affix, is_delimiter, delimiter_char, SpellsInteger, SpellsIntegers, SpellsValue, SpellsAffix, Spells}
use Rattle.lit_model.specs.NumericParse.{◌>>=◌, longest_prefix, after_longest_prefix, integer_from, integer_at, delimiter_of, delimiter_first, delimiter_at, integers_at, value_at, text_from, affix_from, is_blank, numeric_from}
use Rattle.lit_model.proofs.Integers.{Only-front}
use Rattle.lit_model.proofs.Pieces.{bind_some, some_is, chosen, front_after}

abbrev Numbers : Type 0
Numbers = List (ℤ × Option NumericDelimiter)

-- ---- one number

integer_from_is : (ds : List ℕ) (n : ℤ) → integer_from ds ≡ Some n → (0 < length ds) × (digits_value 10 ds < 2 ^ 31) × (n ≡ pos (digits_value 10 ds))
integer_from_is [] n h = absurd cc
integer_from_is (d ∷ ds) n h =
    let c = cond_some (nat_lt (digits_value 10 (d ∷ ds)) (2 ^ 31)) (pos (digits_value 10 (d ∷ ds))) n h in
    (omega arith, ltb-true _ _ c.0, sym c.1)

pub integer_sound : (cs : List ℕ) (x : ℤ × List ℕ) → integer_at cs ≡ Some x → SpellsInteger x.0 (longest_prefix is_ascii_digit cs) × (cs ≡ longest_prefix is_ascii_digit cs ++ x.1)
unfolding integer_at
integer_sound cs x h =
    let b = bind_some (integer_from (longest_prefix is_ascii_digit cs)) (λ n. Some (n, after_longest_prefix is_ascii_digit cs)) x h in
    let e = some_is (b.0, after_longest_prefix is_ascii_digit cs) x b.2 in
    let f = integer_from_is (longest_prefix is_ascii_digit cs) b.0 b.1 in
    let n-is : b.0 ≡ x.0 = ap (λ (y : ℤ × List ℕ). y.0) e in
    let r-is : after_longest_prefix is_ascii_digit cs ≡ x.1 = ap (λ (y : ℤ × List ℕ). y.1) e in (
      record { nonempty = f.0; digits = Only-front is_ascii_digit cs; fits = f.1; is = sym n-is ∙ f.2 },
      front_after is_ascii_digit cs ∙ ap (λ (r : List ℕ). longest_prefix is_ascii_digit cs ++ r) r-is,
    )

-- ---- a delimiter

pub delimiter_of_is : (c : ℕ) (d : NumericDelimiter) → delimiter_of c ≡ Some d → c ≡ delimiter_char d
delimiter_of_is c d h =
    elim (chosen (nat_eq c 44) (Some Comma) (cond (nat_eq c 38) (Some Ampersand) (cond (nat_eq c 45) (Some Hyphen) None)) (Some d) h) [
      | inl e ↦ eqb-true c 44 e.0 ∙ ap delimiter_char (some_is Comma d e.1)
      | inr f ↦ elim (chosen (nat_eq c 38) (Some Ampersand) (cond (nat_eq c 45) (Some Hyphen) None) (Some d) f.1) [
        | inl e ↦ eqb-true c 38 e.0 ∙ ap delimiter_char (some_is Ampersand d e.1)
        | inr g ↦ elim (chosen (nat_eq c 45) (Some Hyphen) None (Some d) g.1) [
          | inl e ↦ eqb-true c 45 e.0 ∙ ap delimiter_char (some_is Hyphen d e.1)
          | inr e ↦ absurd cc
        ]
      ]
    ]

pub record HasDelimiter (cs : List ℕ) (d : NumericDelimiter) (rest : List ℕ) : Type 0 where
  pub before : List ℕ
  pub after : List ℕ
  pub whole : cs ≡ before ++ (delimiter_char d ∷ (after ++ rest))
  pub blank_before : IsBlank before
  pub blank_after : IsBlank after

delimiter_first_sound : (cs : List ℕ) (x : NumericDelimiter × List ℕ) → delimiter_first cs ≡ Some x → cs ≡ delimiter_char x.0 ∷ (longest_prefix is_whitespace (drop 1 cs) ++ x.1)
delimiter_first_sound [] x h = absurd cc
delimiter_first_sound (c ∷ cs) x h =
    let b = bind_some (delimiter_of c) (λ d. Some (d, after_longest_prefix is_whitespace cs)) x h in
    let e = some_is (b.0, after_longest_prefix is_whitespace cs) x b.2 in
    let d-is : b.0 ≡ x.0 = ap (λ (y : NumericDelimiter × List ℕ). y.0) e in
    let r-is : after_longest_prefix is_whitespace cs ≡ x.1 = ap (λ (y : NumericDelimiter × List ℕ). y.1) e in
    let head : c ≡ delimiter_char x.0 = delimiter_of_is c b.0 b.1 ∙ ap delimiter_char d-is in
    let tail : cs ≡ longest_prefix is_whitespace cs ++ x.1 = front_after is_whitespace cs ∙ ap (λ (r : List ℕ). longest_prefix is_whitespace cs ++ r) r-is in
    ap (λ (y : ℕ). y ∷ cs) head ∙ ap (λ (y : List ℕ). delimiter_char x.0 ∷ y) tail

pub delimiter_sound : (cs : List ℕ) (x : NumericDelimiter × List ℕ) → delimiter_at cs ≡ Some x → HasDelimiter cs x.0 x.1
unfolding delimiter_at
delimiter_sound cs x h =
    let rest = after_longest_prefix is_whitespace cs in
    record {
      before = longest_prefix is_whitespace cs;
      after = longest_prefix is_whitespace (drop 1 rest);
      whole = front_after is_whitespace cs ∙ ap (λ (r : List ℕ). longest_prefix is_whitespace cs ++ r) (delimiter_first_sound rest x h);
      blank_before = Only-front is_whitespace cs;
      blank_after = Only-front is_whitespace (drop 1 rest);
    }

-- ---- several numbers

pub record HasNumbers (cs : List ℕ) (k : ℕ) (numbers : Numbers) (rest : List ℕ) : Type 0 where
  pub text : List ℕ
  pub whole : cs ≡ text ++ rest
  pub spelled : SpellsIntegers numbers text
  pub count : length numbers ≡ suc k

-- a number with its delimiter before the other numbers
more_sound : (cs : List ℕ) (n : ℤ) (digits a : List ℕ) (d : NumericDelimiter) (b : List ℕ) (k : ℕ) (more : Numbers) (r : List ℕ) → SpellsInteger n digits → cs ≡ digits ++ a → HasDelimiter a d b → HasNumbers b k more r → HasNumbers cs (suc k) ((n, Some d) ∷ more) r
more_sound cs n digits a d b k [] r hn ha hd hm = absurd (omega (arith, hm.count))
more_sound cs n digits a d b k (y ∷ more) r hn ha hd hm =
    let tail = delimiter_char d ∷ (hd.after ++ hm.text) in
    let grouped : delimiter_char d ∷ (hd.after ++ b) ≡ tail ++ r = ap (λ (x : List ℕ). delimiter_char d ∷ x) (ap (λ (x : List ℕ). hd.after ++ x) hm.whole ∙ sym (append_assoc hd.after hm.text r)) in
    let all : cs ≡ (digits ++ (hd.before ++ tail)) ++ r =
    ha ∙ ap (λ (x : List ℕ). digits ++ x) (hd.whole ∙ ap (λ (x : List ℕ). hd.before ++ x) grouped ∙ sym (append_assoc hd.before tail r)) ∙ sym (append_assoc digits (hd.before ++ tail) r) in
    record {
      text = digits ++ (hd.before ++ tail);
      whole = all;
      spelled = (d, digits, hd.before, hd.after, hm.text, refl, refl, hn, hd.blank_before, hd.blank_after, hm.spelled);
      count = omega (arith, hm.count);
    }

pub integers_sound : (k : ℕ) (cs : List ℕ) (x : Numbers × List ℕ) → integers_at k cs ≡ Some x → HasNumbers cs k x.0 x.1
unfolding integers_at
integers_sound zero cs x h =
    let b = bind_some (integer_at cs) (λ n. Some ((n.0, None) ∷ [], n.1)) x h in
    let s = integer_sound cs b.0 b.1 in
    subst (λ (y : Numbers × List ℕ). HasNumbers cs 0 y.0 y.1) (some_is ((b.0.0, None) ∷ [], b.0.1) x b.2) (record { text = longest_prefix is_ascii_digit cs; whole = s.1; spelled = (refl, s.0); count = refl })
integers_sound (suc k) cs x h =
    let b = bind_some (integer_at cs) (λ n. delimiter_at n.1 >>= λ d. integers_at k d.1 >>= λ more. Some ((n.0, Some d.0) ∷ more.0, more.1)) x h in
    let c = bind_some (delimiter_at b.0.1) (λ d. integers_at k d.1 >>= λ more. Some ((b.0.0, Some d.0) ∷ more.0, more.1)) x b.2 in
    let e = bind_some (integers_at k c.0.1) (λ more. Some ((b.0.0, Some c.0.0) ∷ more.0, more.1)) x c.2 in
    let s = integer_sound cs b.0 b.1 in
    let t = delimiter_sound b.0.1 c.0 c.1 in
    let u = integers_sound k c.0.1 e.0 e.1 in
    subst (λ (y : Numbers × List ℕ). HasNumbers cs (suc k) y.0 y.1) (some_is ((b.0.0, Some c.0.0) ∷ e.0.0, e.0.1) x e.2)
    (more_sound cs b.0.0 (longest_prefix is_ascii_digit cs) b.0.1 c.0.0 c.0.1 k e.0.0 e.0.1 s.0 s.1 t u)

-- ---- a number with its prefix and suffix

pub record HasValue (cs : List ℕ) (v : ValueView) (rest : List ℕ) : Type 0 where
  pub text : List ℕ
  pub whole : cs ≡ text ++ rest
  pub spelled : SpellsValue v text

pub value_sound : (k : ℕ) (cs : List ℕ) (x : ValueView × List ℕ) → value_at k cs ≡ Some x → HasValue cs x.0 x.1
unfolding value_at
value_sound zero cs x h =
    let b = bind_some (integer_at cs) (λ n. Some (one n.0, n.1)) x h in
    let s = integer_sound cs b.0 b.1 in
    subst (λ (y : ValueView × List ℕ). HasValue cs y.0 y.1) (some_is (one b.0.0, b.0.1) x b.2) (record { text = longest_prefix is_ascii_digit cs; whole = s.1; spelled = s.0 })
value_sound (suc k) cs x h =
    let b = bind_some (integers_at (suc k) cs) (λ n. Some (several n.0, n.1)) x h in
    let s = integers_sound (suc k) cs b.0 b.1 in
    subst (λ (y : ValueView × List ℕ). HasValue cs y.0 y.1) (some_is (several b.0.0, b.0.1) x b.2) (record { text = s.text; whole = s.whole; spelled = (omega (arith, s.count), s.spelled) })

from_list : (xs : List ℕ) → 0 < length xs → (b : ℕ) × (bytes : List ℕ) × (xs ≡ b ∷ bytes)
from_list [] h = absurd (omega arith)
from_list (x ∷ xs) h = (x, xs, refl)

-- one or more characters have one or more bytes
pub encodes_some : (c : ℕ) (cs : List ℕ) → (b : ℕ) × (bytes : List ℕ) × (encode_utf8_all (c ∷ cs) ≡ b ∷ bytes)
encodes_some c cs = from_list (encode_utf8_all (c ∷ cs)) (omega (arith, length-le-encodes (c ∷ cs)))

pub affix_sound : (p : ℕ → Bool) (cs : List ℕ) → AllChars p cs → SpellsAffix p (affix_from cs) cs
affix_sound p [] only = refl
affix_sound p (c ∷ cs) only =
    let e = encodes_some c cs in
    subst (λ (o : Option (List ℕ)). SpellsAffix p o (c ∷ cs)) (sym (ap text_from e.2)) (omega arith, only, sym e.2)

pub blank_is : (cs : List ℕ) → is_blank cs ≡ true → IsBlank cs
blank_is cs h =
    let none : after_longest_prefix is_whitespace cs ≡ [] = nil_from_length (after_longest_prefix is_whitespace cs) (eqb-true _ _ h) in
    let all : cs ≡ longest_prefix is_whitespace cs = front_after is_whitespace cs ∙ ap (λ (r : List ℕ). longest_prefix is_whitespace cs ++ r) none ∙ append-nil (longest_prefix is_whitespace cs) in
    subst IsBlank (sym all) (Only-front is_whitespace cs)

-- if the parser reads a value, the characters spell it
pub numeric_sound : (cs : List ℕ) (v : NumericView) → numeric_from cs ≡ Some v → Spells v cs
unfolding numeric_from
numeric_sound cs v h =
    let start = after_longest_prefix is_whitespace cs in
    let b = bind_some (value_at (count_by is_delimiter cs) (after_longest_prefix is_affix start)) (λ value. cond (is_blank (after_longest_prefix is_affix value.1)) (Some (record { value = value.0; prefix = affix_from (longest_prefix is_affix start); suffix = affix_from (longest_prefix is_affix value.1) })) None) v h in
    let made : NumericView = record { value = b.0.0; prefix = affix_from (longest_prefix is_affix start); suffix = affix_from (longest_prefix is_affix b.0.1) } in
    let g = cond_some (is_blank (after_longest_prefix is_affix b.0.1)) made v b.2 in
    let s = value_sound (count_by is_delimiter cs) (after_longest_prefix is_affix start) b.0 b.1 in
    let end : b.0.1 ≡ longest_prefix is_affix b.0.1 ++ after_longest_prefix is_affix b.0.1 = front_after is_affix b.0.1 in
    let numbers : after_longest_prefix is_affix start ≡ s.text ++ (longest_prefix is_affix b.0.1 ++ after_longest_prefix is_affix b.0.1) = s.whole ∙ ap (λ (x : List ℕ). s.text ++ x) end in
    let all : cs ≡ longest_prefix is_whitespace cs ++ (longest_prefix is_affix start ++ (s.text ++ (longest_prefix is_affix b.0.1 ++ after_longest_prefix is_affix b.0.1))) =
    front_after is_whitespace cs ∙ ap (λ (x : List ℕ). longest_prefix is_whitespace cs ++ x) (front_after is_affix start ∙ ap (λ (x : List ℕ). longest_prefix is_affix start ++ x) numbers) in
    subst (λ (w : NumericView). Spells w cs) g.1 (record {
      before = longest_prefix is_whitespace cs;
      prefix = longest_prefix is_affix start;
      numbers = s.text;
      suffix = longest_prefix is_affix b.0.1;
      after = after_longest_prefix is_affix b.0.1;
      whole = all;
      blank_before = Only-front is_whitespace cs;
      has_prefix = affix_sound is_affix (longest_prefix is_affix start) (Only-front is_affix start);
      has_value = s.spelled;
      has_suffix = affix_sound is_affix (longest_prefix is_affix b.0.1) (Only-front is_affix b.0.1);
      blank_after = blank_is (after_longest_prefix is_affix b.0.1) g.0;
    })
