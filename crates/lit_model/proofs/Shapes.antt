-- The shape of a numeric text: its parts, and the value that they give.
use Rattle.std.proofs.Common.{◌≡◌, ℕ, zero, suc, true, false, List, [], ◌∷◌, Option, Some, None, count_by, chars, encode_utf8_all, refl, sym, ap, ◌∙◌}
use Rattle.std.specs.Char.{is_whitespace}
use Rattle.lit_model.specs.declared.numeric.parse.Shape.{Shape}
use Rattle.lit_model.specs.Parsing.{IsShapeOf}
use Rattle.lit_model.specs.Numeric.{ValueView, one, several, is_affix, is_delimiter}
use Rattle.lit_model.specs.NumericParse.{◌>>=◌, read_of, rest_of, longest_prefix, after_longest_prefix, integer_at, integers_at, value_at, affix_from, is_blank, numeric_from}

rest_of_bind : {A B : Type 0} (o : Option (A × List ℕ)) (f : A → B) → rest_of (o >>= λ n. Some (f n.0, n.1)) ≡ rest_of o
rest_of_bind None f = refl
rest_of_bind (Some n) f = refl

-- the characters after a value are those after its numbers
pub rest_of_value : (k : ℕ) (cs : List ℕ) → rest_of (value_at k cs) ≡ rest_of (integers_at k cs)
unfolding value_at integers_at
rest_of_value zero cs = rest_of_bind (integer_at cs) one ∙ sym (rest_of_bind (integer_at cs) (λ n. (n, None) ∷ []))
rest_of_value (suc k) cs = rest_of_bind (integers_at (suc k) cs) several

none_from_rest : {A : Type 0} (o : Option (A × List ℕ)) → rest_of o ≡ None → o ≡ None
none_from_rest None h = refl
none_from_rest (Some x) h = cc

some_from_rest : {A : Type 0} (o : Option (A × List ℕ)) (r : List ℕ) → rest_of o ≡ Some r → (a : A) × (o ≡ Some (a, r))
some_from_rest None r h = absurd cc
some_from_rest (Some x) r h = (x.0, let e : x.1 ≡ r = cc in ap (λ (s : List ℕ). Some (x.0, s)) e)

-- the characters from the first number on
abbrev pub numbers_of : List ℕ → List ℕ
numbers_of cs = after_longest_prefix is_affix (after_longest_prefix is_whitespace cs)

-- without numbers there is no value
pub shape_none : (cs : List ℕ) → rest_of (integers_at (count_by is_delimiter cs) (numbers_of cs)) ≡ None → numeric_from cs ≡ None
unfolding numeric_from
shape_none cs h = rw (none_from_rest (value_at (count_by is_delimiter cs) (numbers_of cs)) (rest_of_value (count_by is_delimiter cs) (numbers_of cs) ∙ h)) refl

-- if more than white space is after the suffix, there is no value
pub shape_unended : (cs r : List ℕ) → rest_of (integers_at (count_by is_delimiter cs) (numbers_of cs)) ≡ Some r → is_blank (after_longest_prefix is_affix r) ≡ false → numeric_from cs ≡ None
unfolding numeric_from
shape_unended cs r h ended =
    let v = some_from_rest (value_at (count_by is_delimiter cs) (numbers_of cs)) r (rest_of_value (count_by is_delimiter cs) (numbers_of cs) ∙ h) in
    rw (v.1, ended) refl

numeric_from_is : (cs r : List ℕ) (v : ValueView) → value_at (count_by is_delimiter cs) (numbers_of cs) ≡ Some (v, r) → is_blank (after_longest_prefix is_affix r) ≡ true
    → numeric_from cs ≡ Some (record { value = v; prefix = affix_from (longest_prefix is_affix (after_longest_prefix is_whitespace cs)); suffix = affix_from (longest_prefix is_affix r) })
unfolding numeric_from
numeric_from_is cs r v h ended = rw (h, ended) refl

-- else there is a value, with this prefix and suffix
pub shape_some : (cs r : List ℕ) → rest_of (integers_at (count_by is_delimiter cs) (numbers_of cs)) ≡ Some r → is_blank (after_longest_prefix is_affix r) ≡ true
    → (v : ValueView) × (read_of (value_at (count_by is_delimiter cs) (numbers_of cs)) ≡ Some v)
    × (numeric_from cs ≡ Some (record { value = v; prefix = affix_from (longest_prefix is_affix (after_longest_prefix is_whitespace cs)); suffix = affix_from (longest_prefix is_affix r) }))
shape_some cs r h ended =
    let v = some_from_rest (value_at (count_by is_delimiter cs) (numbers_of cs)) r (rest_of_value (count_by is_delimiter cs) (numbers_of cs) ∙ h) in
    (v.0, ap read_of v.1, numeric_from_is cs r v.0 v.1 ended)

-- a shape with these parts is the shape of the characters
pub shape_made : (cs : List ℕ) (s : Shape) (r : List ℕ) (v : ValueView) → s.delimiters ≡ count_by is_delimiter cs → chars s.numbers.now ≡ numbers_of cs
    → s.prefix.now ≡ encode_utf8_all (longest_prefix is_affix (after_longest_prefix is_whitespace cs)) → s.suffix.now ≡ encode_utf8_all (longest_prefix is_affix r)
    → read_of (value_at (count_by is_delimiter cs) (numbers_of cs)) ≡ Some v
    → numeric_from cs ≡ Some (record { value = v; prefix = affix_from (longest_prefix is_affix (after_longest_prefix is_whitespace cs)); suffix = affix_from (longest_prefix is_affix r) })
    → IsShapeOf cs s
shape_made cs s r v count numbers prefix suffix read whole =
    record { value = v; has_value = rw (count, numbers) read; whole = rw (prefix, suffix) whole }
