-- The order of answers to number variables is total. It ignores the separators of numbers.
use Rattle.std.proofs.Common.{◌≡◌, refl, sym, ◌∙◌, ap, subst, false, ◌⊎◌, inl, inr}
use Rattle.std.specs.Prelude.{ℕ, ℤ, List, [], ◌∷◌, Option, Some, None, IsTrue, ◌↔◌}
use Rattle.std.specs.Ordering.{nat_cmp, int_cmp, ordering_then, ordering_reverse, is_le, is_gt, is_eq}
use Rattle.std.specs.Option.{option_cmp}
use Rattle.std.specs.Cmp.{IsTotalOrder, nat_cmp_total, int_cmp_total, on_total, then_total, upto, tied_itself, signed_Decides}
use Rattle.std.specs.Cmp.Lexicographic.{slice_cmp, lists_total, options_total, nat_list_cmp_total, bytes_decides, texts_ties}
use Rattle.std.specs.declared.cmp.Ordering.{Ordering}
use Rattle.std.specs.declared.cmp.Ordering.TheVariants.{Less, Equal, Greater}
use Rattle.lit_model.specs.MaybeTyped.{MaybeView, typed, text}
use Rattle.lit_model.specs.Numeric.{NumericView, numbers}
use Rattle.csl_entry.specs.NumberResult.{ResultView, regular, transparent, text_order, numeric_order, regular_order, csl_order, IsOrder, SameButSeparators}

-- values of two kinds: the first kind comes before the second, and each kind has its own order
module _ {A B : Type 0} (R : A → A → Ordering) (S : B → B → Ordering) where
  abbrev kinds_cmp : A ⊎ B → A ⊎ B → Ordering
  kinds_cmp (inl a) (inl b) = R a b
  kinds_cmp (inl a) (inr b) = Less
  kinds_cmp (inr a) (inl b) = Greater
  kinds_cmp (inr a) (inr b) = S a b

  module _ (o : IsTotalOrder R) (p : IsTotalOrder S) where
    kinds_swapped : (x y : A ⊎ B) → kinds_cmp x y ≡ ordering_reverse (kinds_cmp y x)
    kinds_swapped (inl a) (inl b) = o.antisymm a b
    kinds_swapped (inl a) (inr b) = refl
    kinds_swapped (inr a) (inl b) = refl
    kinds_swapped (inr a) (inr b) = p.antisymm a b

    kinds_chained : (x y z : A ⊎ B) → kinds_cmp x y ≡ Less → kinds_cmp y z ≡ Less → kinds_cmp x z ≡ Less
    kinds_chained (inl a) (inl b) (inl c) h k = o.trans a b c h k
    kinds_chained (inl a) (inl b) (inr c) h k = refl
    kinds_chained (inl a) (inr b) (inl c) h k = cc
    kinds_chained (inl a) (inr b) (inr c) h k = refl
    kinds_chained (inr a) (inl b) z h k = cc
    kinds_chained (inr a) (inr b) (inl c) h k = cc
    kinds_chained (inr a) (inr b) (inr c) h k = p.trans a b c h k

    kinds_alike : (x y z : A ⊎ B) → kinds_cmp x y ≡ Equal → kinds_cmp x z ≡ kinds_cmp y z
    kinds_alike (inl a) (inl b) (inl c) h = o.congr a b c h
    kinds_alike (inl a) (inl b) (inr c) h = refl
    kinds_alike (inl a) (inr b) z h = cc
    kinds_alike (inr a) (inl b) z h = cc
    kinds_alike (inr a) (inr b) (inl c) h = refl
    kinds_alike (inr a) (inr b) (inr c) h = p.congr a b c h

    pub kinds_total : IsTotalOrder kinds_cmp
    kinds_total = record { antisymm = kinds_swapped; trans = kinds_chained; congr = kinds_alike }

pub numeric_total : IsTotalOrder numeric_order
numeric_total = then_total (on_total (λ (v : NumericView). numbers v.value) (lists_total int_cmp_total))
    (then_total (on_total (λ (v : NumericView). v.prefix) (options_total nat_list_cmp_total)) (on_total (λ (v : NumericView). v.suffix) (options_total nat_list_cmp_total)))

abbrev typed_or_text : MaybeView NumericView → NumericView ⊎ List ℕ
typed_or_text (typed v) = inl v
typed_or_text (text s) = inr s

regular_kinds : (x y : MaybeView NumericView) → kinds_cmp numeric_order text_order (typed_or_text x) (typed_or_text y) ≡ regular_order x y
regular_kinds (typed v) (typed w) = refl
regular_kinds (typed v) (text t) = refl
regular_kinds (text s) (typed w) = refl
regular_kinds (text s) (text t) = refl

pub regular_total : IsTotalOrder regular_order
regular_total = subst IsTotalOrder (λ i x y. regular_kinds x y i) (on_total typed_or_text (kinds_total numeric_order text_order numeric_total nat_list_cmp_total))

abbrev regular_or_not : ResultView → MaybeView NumericView ⊎ ℕ
regular_or_not (regular x) = inl x
regular_or_not (transparent i) = inr i

csl_kinds : (x y : ResultView) → kinds_cmp regular_order nat_cmp (regular_or_not x) (regular_or_not y) ≡ csl_order x y
csl_kinds (regular x) (regular y) = refl
csl_kinds (regular x) (transparent j) = refl
csl_kinds (transparent i) (regular y) = refl
csl_kinds (transparent i) (transparent j) = refl

pub csl_total : IsTotalOrder csl_order
csl_total = subst IsTotalOrder (λ i x y. csl_kinds x y i) (on_total regular_or_not (kinds_total regular_order nat_cmp regular_total nat_cmp_total))

not_after : (r : Ordering) → IsTrue (is_le r) → is_gt r ≡ false
not_after Less h = refl
not_after Equal h = refl
not_after Greater h = cc

up_to : (r : Ordering) → is_gt r ≡ false → IsTrue (is_le r)
up_to Less h = refl
up_to Equal h = refl
up_to Greater h = cc

pub csl_is_order : IsOrder csl_order
csl_is_order = record {
  antisymmetric = λ a b. csl_total.antisymm b a;
  transitive = λ a b c h k. up_to (csl_order a c) (upto csl_total a b c (not_after (csl_order a b) h) (not_after (csl_order b c) k));
  strictly_transitive = csl_total.trans;
}

at_one_place : (v w : NumericView) → SameButSeparators v w → numeric_order v w ≡ Equal
at_one_place v w h =
    (λ i. ordering_then (slice_cmp int_cmp (numbers v.value) (sym h.same_numbers i)) (ordering_then (option_cmp text_order v.prefix (sym h.same_prefix i)) (option_cmp text_order v.suffix (sym h.same_suffix i))))
    ∙ tied_itself numeric_total v

both_equal : (r s : Ordering) → ordering_then r s ≡ Equal → (r ≡ Equal) × (s ≡ Equal)
both_equal Less s h = cc
both_equal Equal s h = (refl, h)
both_equal Greater s h = cc

same_list : (xs ys : List ℤ) → slice_cmp int_cmp xs ys ≡ Equal → xs ≡ ys
same_list [] [] h = refl
same_list [] (y ∷ ys) h = cc
same_list (x ∷ xs) [] h = cc
same_list (x ∷ xs) (y ∷ ys) h =
    let both = both_equal (int_cmp x y) (slice_cmp int_cmp xs ys) h in
    let first : x ≡ y = (signed_Decides x y).0 (ap is_eq both.0) in
    let more : xs ≡ ys = same_list xs ys both.1 in
    cc

same_affix : (p q : Option (List ℕ)) → option_cmp text_order p q ≡ Equal → p ≡ q
same_affix None None h = refl
same_affix None (Some t) h = cc
same_affix (Some s) None h = cc
same_affix (Some s) (Some t) h = ap Some ((bytes_decides s t).0 (texts_ties s t ∙ ap is_eq h))

same_at_one_place : (v w : NumericView) → numeric_order v w ≡ Equal → SameButSeparators v w
same_at_one_place v w h =
    let values = both_equal (slice_cmp int_cmp (numbers v.value) (numbers w.value)) (ordering_then (option_cmp text_order v.prefix w.prefix) (option_cmp text_order v.suffix w.suffix)) h in
    let affixes = both_equal (option_cmp text_order v.prefix w.prefix) (option_cmp text_order v.suffix w.suffix) values.1 in
    record { same_numbers = same_list _ _ values.0; same_prefix = same_affix _ _ affixes.0; same_suffix = same_affix _ _ affixes.1 }

pub separators_aside : (v w : NumericView) → SameButSeparators v w ↔ (csl_order (regular (typed v)) (regular (typed w)) ≡ Equal)
separators_aside v w = (at_one_place v w, same_at_one_place v w)
