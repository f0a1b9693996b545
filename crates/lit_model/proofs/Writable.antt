-- A value that some text spells is writable.
use Rattle.std.proofs.Common.{◌≡◌, ℕ, Bool, true, false, ◌&&◌, List, [], ◌∷◌, ◌++◌, length, Option, Some, None, ℤ, chars, refl, sym, ap, ◌∙◌, subst, arith}
use Rattle.std.specs.Prelude.{IsSome, IsUtf8}
use lib.Utf8.{scalar}
use Rattle.std.specs.Str.{all_scalars}
use Rattle.std.proofs.lemmas.Bool.{false≢true}
use Rattle.std.proofs.lemmas.Str.{chars-encodes, length-le-encodes}
use Rattle.lit_model.specs.declared.numeric.NumericDelimiter.{NumericDelimiter}
use Rattle.lit_model.specs.Numeric.{ValueView, one, several, NumericView, AllChars, is_affix, SpellsInteger, SpellsIntegers, SpellsValue, SpellsAffix, Spells, IsWritableInteger, AreWritableIntegers, IsWritableValue, IsWritableAffix, IsWritable}

abbrev Numbers : Type 0
Numbers = List (ℤ × Option NumericDelimiter)

pub integer_writable : (n : ℤ) (cs : List ℕ) → SpellsInteger n cs → IsWritableInteger n
integer_writable n cs s = subst IsWritableInteger (sym s.is) s.fits

some_is_some : (o : Option NumericDelimiter) (d : NumericDelimiter) → o ≡ Some d → IsSome o
some_is_some o d h = subst (λ (x : Option NumericDelimiter). IsSome x) (sym h) refl

integers_writable : (xs : Numbers) (cs : List ℕ) → SpellsIntegers xs cs → AreWritableIntegers xs
integers_writable [] cs s = absurd s
integers_writable (x ∷ []) cs s = (integer_writable x.0 cs s.1, s.0)
integers_writable (x ∷ y ∷ more) cs (d, digits, before, after, rest, has, whole, spelled, blank_before, blank_after, others) =
    (integer_writable x.0 digits spelled, some_is_some x.1 d has, integers_writable (y ∷ more) rest others)

value_writable : (v : ValueView) (cs : List ℕ) → SpellsValue v cs → IsWritableValue v
value_writable (one n) cs s = integer_writable n cs s
value_writable (several xs) cs s = (s.0, integers_writable xs cs s.1)

both_true : (a b : Bool) → a && b ≡ true → (a ≡ true) × (b ≡ true)
both_true true b h = (refl, h)
both_true false b h = absurd (false≢true h)

-- both parts of a list of scalar values are lists of scalar values
pub scalars_parts : (xs ys : List ℕ) → all_scalars (xs ++ ys) ≡ true → (all_scalars xs ≡ true) × (all_scalars ys ≡ true)
scalars_parts [] ys h = (refl, h)
scalars_parts (x ∷ xs) ys h =
    let here = both_true (scalar x) (all_scalars (xs ++ ys)) h in
    let rest = scalars_parts xs ys here.1 in
    (rw (here.0, rest.0) refl, rest.1)

pub affix_writable : (p : ℕ → Bool) (o : Option (List ℕ)) (cs : List ℕ) → all_scalars cs ≡ true → SpellsAffix p o cs → IsWritableAffix p o
affix_writable p None cs is_scalar s = tt
affix_writable p (Some bytes) cs is_scalar s =
    let utf8 : IsUtf8 bytes = (cs, (is_scalar, sym s.2)) in
    let same : chars bytes ≡ cs = ap chars s.2 ∙ chars-encodes cs is_scalar in
    (utf8, omega (arith, ap length s.2, length-le-encodes cs, s.0), subst (AllChars p) (sym same) s.1)

pub numeric_writable : (v : NumericView) (cs : List ℕ) → all_scalars cs ≡ true → Spells v cs → IsWritable v
numeric_writable v cs is_scalar s =
    let whole = scalars_parts s.before (s.prefix ++ (s.numbers ++ (s.suffix ++ s.after))) (sym (ap all_scalars s.whole) ∙ is_scalar) in
    let first = scalars_parts s.prefix (s.numbers ++ (s.suffix ++ s.after)) whole.1 in
    let second = scalars_parts s.numbers (s.suffix ++ s.after) first.1 in
    let third = scalars_parts s.suffix s.after second.1 in
    record {
      value = value_writable v.value s.numbers s.has_value;
      prefix = affix_writable is_affix v.prefix s.prefix first.0 s.has_prefix;
      suffix = affix_writable is_affix v.suffix s.suffix third.0 s.has_suffix;
    }
