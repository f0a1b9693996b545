-- Texts and contents without marks.
use Rattle.std.proofs.Common.{◌≡◌, ◌∙◌, ℕ, Bool, true, false, List, [], ◌∷◌, ◌++◌, refl, sym, ap}
use Rattle.std.specs.Prelude.{not, filter, chars, encode_utf8_all, string_bytes, String}
use Rattle.std.specs.List.{list_any}
use Rattle.std.specs.Str.{IsUtf8}
use Rattle.std.proofs.lemmas.Str.{IsUtf8-string_bytes, chars_from_encodes, encodes-chars}
use Rattle.csl_tree.specs.Tokens.{Token, text, solid, markup, link, transparent, elem_start, elem_end}
use Rattle.csl_finish.specs.CaseMarks.{is_case_mark, is_no_mark, has_mark, without_marks, token_has_mark, have_mark, solid_of, unmarked_solid, solids, unmarked_solids}

-- a list without the elements that pass a test
module _ {X : Type 0} (p : X → Bool) where
  none_more : (b : Bool) (x : X) (xs : List X) → p x ≡ b → list_any p (filter (λ y. not (p y)) xs) ≡ false → list_any p (filter (λ y. not (p y)) (x ∷ xs)) ≡ false
  none_more true x xs e h = rw e h
  none_more false x xs e h = rw e (rw e h)

  none_left : (xs : List X) → list_any p (filter (λ y. not (p y)) xs) ≡ false
  none_left [] = refl
  none_left (x ∷ xs) = none_more (p x) x xs refl (none_left xs)

  all_more : (b : Bool) (x : X) (xs : List X) → p x ≡ b → (list_any p xs ≡ false → filter (λ y. not (p y)) xs ≡ xs) → list_any p (x ∷ xs) ≡ false → filter (λ y. not (p y)) (x ∷ xs) ≡ x ∷ xs
  all_more true x xs e rest h = let k = rw e at h in absurd (cc k)
  all_more false x xs e rest h = let k = rw e at h in rw e (ap (λ ys. x ∷ ys) (rest k))

  all_left : (xs : List X) → list_any p xs ≡ false → filter (λ y. not (p y)) xs ≡ xs
  all_left [] h = refl
  all_left (x ∷ xs) h = all_more (p x) x xs refl (all_left xs) h

-- a text of the characters that are no marks has none
pub no_marks_left : {Z : Type 0} (s : String Z) (cs : List ℕ) → string_bytes s ≡ encode_utf8_all (filter is_no_mark cs) → has_mark (string_bytes s) ≡ false
no_marks_left s cs e =
    ap (list_any is_case_mark) (sym (chars_from_encodes (filter is_no_mark cs) (string_bytes s) (IsUtf8-string_bytes s) (sym e)))
    ∙ none_left is_case_mark cs

without : (b : Bool) (bs : List ℕ) → IsUtf8 bs → has_mark bs ≡ b → encode_utf8_all (filter is_no_mark (chars bs)) ≡ without_marks bs
without true bs u e = rw e refl
without false bs u e = rw e (ap encode_utf8_all (all_left is_case_mark (chars bs) e) ∙ encodes-chars bs u)

pub without_is : (bs : List ℕ) → IsUtf8 bs → encode_utf8_all (filter is_no_mark (chars bs)) ≡ without_marks bs
without_is bs u = without (has_mark bs) bs u refl

one_same : (t : Token) → token_has_mark t ≡ false → unmarked_solid t ≡ solid_of t
one_same (text bs f) e = refl
one_same (solid (markup bs)) e = rw e refl
one_same (solid (link bs f url)) e = rw e refl
one_same (solid (transparent n f)) e = refl
one_same (solid (elem_start d m)) e = refl
one_same (solid (elem_end d)) e = refl

same_more : (b : Bool) (t : Token) (ts : List Token) → token_has_mark t ≡ b → (have_mark ts ≡ false → unmarked_solids ts ≡ solids ts) → have_mark (t ∷ ts) ≡ false → unmarked_solids (t ∷ ts) ≡ solids (t ∷ ts)
same_more true t ts e rest h = let k = rw e at h in absurd (cc k)
same_more false t ts e rest h = let k = rw e at h in (λ i. one_same t e i ++ rest k i)

-- a content without marks has its own links, markup, places and elements
pub solids_same : (ts : List Token) → have_mark ts ≡ false → unmarked_solids ts ≡ solids ts
solids_same [] h = refl
solids_same (t ∷ ts) h = same_more (token_has_mark t) t ts refl (solids_same ts) h
