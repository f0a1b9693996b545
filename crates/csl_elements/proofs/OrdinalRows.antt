-- A lookup in the row of a place finds what it finds in all ordinals, if all of its group are at that
-- place; and how a table gets an ordinal more.
use Rattle.std.proofs.Common.{◌≡◌, ◌⊎◌, ℕ, zero, suc, ◌<◌, ◌≤◌, ◌+◌, ◌%◌, Bool, true, false, ◌&&◌, ◌||◌, ◌==◌, cond, if◌then◌else◌, nat_eq, nat_lt, nat_le, List, [], ◌∷◌, ◌++◌, length, map, filter, replicate, slice_index_or, slice_set, Option, Some, None, Vec, Global, refl, sym, ap, ap₂, subst, ◌∙◌, arith, rules, inl, inr, get_or-set_same, get_or-set_other}
use Rattle.std.specs.Prelude.{find}
use Rattle.std.specs.Option.{option_or, option_eq}
use Rattle.std.specs.Bool.{Decides}
use Rattle.std.proofs.lemmas.Bool.{and_parts, false≢true, eqb-true, eq-eqb, ne_eqb, leb-true, lt-ltb, cases_eq}
use Rattle.std.proofs.lemmas.List.{get_or-map}
use Rattle.std.proofs.lemmas.List.Folds.{find-append}
use denote.Enum.Bare.{sameb}
use Rattle.csl_common.specs.declared.ordinal.GrammarGender.{GrammarGender}
use Rattle.csl_common.specs.contracts.ordinal.GrammarGender.{the_type}
use Rattle.csl_elements.specs.declared.locale.OrdinalSlot.{OrdinalSlot}
use Rattle.csl_elements.specs.declared.locale.OrdinalSlot.TheVariants.{Default, Two, Long}
use Rattle.csl_elements.specs.declared.locale.OrdinalMatch.{OrdinalMatch}
use Rattle.csl_elements.specs.declared.locale.OrdinalMatch.TheVariants.{LastDigit, LastTwoDigits, WholeNumber}
use Rattle.csl_elements.specs.contracts.locale.OrdinalMatch.{the_type as the_match}
use Rattle.csl_elements.specs.contracts.locale.OrdinalSlot.{enum as slots}
use Rattle.csl_elements.specs.contracts.locale.OrdinalSlotPartialEq.TheImpl.{eq-value}
use Rattle.csl_elements.specs.declared.locale.ordinals.OrdinalGroup.{OrdinalGroup}
use Rattle.csl_elements.specs.declared.locale.ordinals.OrdinalGroup.TheVariants.{Between, Slot}
use Rattle.csl_elements.specs.declared.locale.OrdinalTerm.{OrdinalTerm}
use Rattle.csl_elements.specs.Locale.{OrdinalView, ordinal_view}
use Rattle.csl_elements.specs.Ordinals.{digits_for, slot_between, is_between, is_in, is_in_group, for_gender, first_of}
use Rattle.csl_elements.specs.OrdinalTable.{slot_place, is_at, is_twin, has_twin, with_ordinal, with_ordinals, row_views, AreRowsOf}
use Rattle.csl_elements.proofs.Alike.{values_tell, bare, alone}

-- ---- what a filter keeps is found first

not_found : (b : Bool) (o : OrdinalView) (f g : Option OrdinalView) → (b ≡ true → false ≡ true) → f ≡ g → f ≡ cond b (Some o) g
not_found true o f g is same = absurd (false≢true (is refl))
not_found false o f g is same = same

kept : (p : OrdinalView → Bool) (b : Bool) (o : OrdinalView) (rest all : List OrdinalView) → (p o ≡ true → b ≡ true) → find p rest ≡ find p all → find p (cond b (o ∷ rest) rest) ≡ find p (o ∷ all)
kept p true o rest all is same = ap (λ f. cond (p o) (Some o) f) same
kept p false o rest all is same = not_found (p o) o (find p rest) (find p all) is same

find_kept : (p q : OrdinalView → Bool) → ((o : OrdinalView) → p o ≡ true → q o ≡ true) → (os : List OrdinalView) → find p (filter q os) ≡ find p os
find_kept p q is [] = refl
find_kept p q is (o ∷ os) = kept p (q o) o (filter q os) os (is o) (find_kept p q is os)

-- ---- twins

slot_decides : (a b : OrdinalSlot) → Decides (eq-value.it a b) (a ≡ b)
slot_decides a b = values_tell true false false false≢true false≢true slots _ (bare true false false, (alone true false false nat_eq bytes_decide, (alone true false false nat_eq bytes_decide, tt))) a b
  where
    bytes_decide : (x y : ℕ) → Decides (nat_eq x y) (x ≡ y)
    bytes_decide x y = search rules

one_match : (x y : OrdinalMatch) → sameb the_match x y ≡ true → x ≡ y
one_match x y = search rules

one_gender : (x y : GrammarGender) → sameb the_type x y ≡ true → x ≡ y
one_gender x y = search rules

both_same : {A : Type 0} (same : A → A → Bool) → ((x y : A) → same x y ≡ true → x ≡ y) → (a b : Option A) → option_eq same a b ≡ true → a ≡ b
both_same same one None None e = refl
both_same same one None (Some y) e = absurd (false≢true e)
both_same same one (Some x) None e = absurd (false≢true e)
both_same same one (Some x) (Some y) e = ap Some (one x y e)

-- a test of what a lookup compares
abbrev OrdinalTest : Type 0
OrdinalTest = OrdinalSlot → Option OrdinalMatch → Option GrammarGender → Bool

abbrev passes : OrdinalTest → OrdinalView → Bool
passes test o = test o.slot o.matching o.gender

-- a test that an ordinal passes is passed by its twin
twin_passes : (test : OrdinalTest) (x o : OrdinalView) → is_twin x o ≡ true → passes test o ≡ true → passes test x ≡ true
twin_passes test x o e passed =
    let outer = and_parts (eq-value.it x.slot o.slot && option_eq (sameb the_match) x.matching o.matching) (option_eq (sameb the_type) x.gender o.gender) e in
    let inner = and_parts (eq-value.it x.slot o.slot) (option_eq (sameb the_match) x.matching o.matching) outer.0 in
    ap (λ k. test k x.matching x.gender) ((slot_decides x.slot o.slot).0 inner.0)
    ∙ ap (λ k. test o.slot k x.gender) (both_same (sameb the_match) one_match x.matching o.matching inner.1)
    ∙ ap (λ k. test o.slot o.matching k) (both_same (sameb the_type) one_gender x.gender o.gender outer.1)
    ∙ passed

-- what is found stays, whatever comes after it
abbrev IsFound : Option OrdinalView → Type 0
IsFound f = (later : Option OrdinalView) → option_or f later ≡ f

found_first : (b : Bool) (x : OrdinalView) (f : Option OrdinalView) → (b ≡ true) ⊎ IsFound f → IsFound (cond b (Some x) f)
found_first true x f is later = refl
found_first false x f (inl passed) later = absurd (false≢true passed)
found_first false x f (inr found) later = found later

either : (a b : Bool) → (a || b) ≡ true → (a ≡ true) ⊎ (b ≡ true)
either true b e = inl refl
either false b e = inr e

found_twin : (test : OrdinalTest) (row : List OrdinalView) (o : OrdinalView) → has_twin row o ≡ true → passes test o ≡ true → IsFound (find (passes test) row)
found_twin test [] o e passed = absurd (false≢true e)
found_twin test (x ∷ row) o e passed = found_first (passes test x) x (find (passes test) row) (elim (either (is_twin x o) (has_twin row o) e) [
  | inl twin ↦ inl (twin_passes test x o twin passed)
  | inr later ↦ inr (found_twin test row o later passed)
])

passed_over : (b : Bool) (o : OrdinalView) (f rest : Option OrdinalView) → (b ≡ true → IsFound f) → option_or f rest ≡ option_or f (cond b (Some o) rest)
passed_over true o f rest found = found refl rest ∙ sym (found refl (Some o))
passed_over false o f rest found = refl

taken : (b : Bool) (o : OrdinalView) (f rest : Option OrdinalView) → option_or (option_or f (cond b (Some o) None)) rest ≡ option_or f (cond b (Some o) rest)
taken true o None rest = refl
taken false o None rest = refl
taken b o (Some x) rest = refl

with_one : (test : OrdinalTest) (row : List OrdinalView) (o : OrdinalView) (rest : Option OrdinalView) → option_or (find (passes test) (with_ordinal row o)) rest ≡ option_or (find (passes test) row) (cond (passes test o) (Some o) rest)
with_one test row o rest = by_twin (has_twin row o) refl
  where
    by_twin : (b : Bool) → has_twin row o ≡ b → option_or (find (passes test) (if b then row else row ++ o ∷ [])) rest ≡ option_or (find (passes test) row) (cond (passes test o) (Some o) rest)
    by_twin true e = passed_over (passes test o) o (find (passes test) row) rest (found_twin test row o e)
    by_twin false e = ap (λ f. option_or f rest) (find-append (passes test) row (o ∷ [])) ∙ taken (passes test o) o (find (passes test) row) rest

none_after : (f : Option OrdinalView) → f ≡ option_or f None
none_after None = refl
none_after (Some x) = refl

with_all : (test : OrdinalTest) (row os : List OrdinalView) → find (passes test) (with_ordinals row os) ≡ option_or (find (passes test) row) (find (passes test) os)
with_all test row [] = none_after (find (passes test) row)
with_all test row (o ∷ os) = with_all test (with_ordinal row o) os ∙ with_one test row o (find (passes test) os)

-- ---- a lookup in a row

abbrev group_test : OrdinalGroup → OrdinalSlot → Option OrdinalMatch → Bool
group_test (Between low high n) slot matching = slot_between low high n slot matching
group_test (Slot slot) s matching = eq-value.it s slot

in_group : (group : OrdinalGroup) (o : OrdinalView) → group_test group o.slot o.matching ≡ is_in_group group o
in_group (Between low high n) o = refl
in_group (Slot slot) o = refl

module _ (group : OrdinalGroup) (place : ℕ) (is : (o : OrdinalView) → is_in_group group o ≡ true → is_at place o ≡ true) (os : List OrdinalView) where
  abbrev gender_test : Option GrammarGender → OrdinalTest
  gender_test g slot matching gender = group_test group slot matching && option_eq (sameb the_type) gender g

  in_row : (g : Option GrammarGender) (row : List OrdinalView) → find (passes (gender_test g)) row ≡ for_gender (is_in_group group) row g
  in_row g [] = refl
  in_row g (o ∷ row) = ap₂ (λ b f. cond (b && option_eq (sameb the_type) o.gender g) (Some o) f) (in_group group o) (in_row g row)

  gender_row : (g : Option GrammarGender) → for_gender (is_in_group group) (with_ordinals [] (filter (is_at place) os)) g ≡ for_gender (is_in_group group) os g
  gender_row g =
      sym (in_row g (with_ordinals [] (filter (is_at place) os)))
      ∙ with_all (gender_test g) [] (filter (is_at place) os)
      ∙ in_row g (filter (is_at place) os)
      ∙ find_kept (λ o. is_in_group group o && option_eq (sameb the_type) o.gender g) (is_at place) (λ o e. is o (and_parts (is_in_group group o) (option_eq (sameb the_type) o.gender g) e).0) os

  pub first_in_row : (g : Option GrammarGender) → first_of (is_in_group group) (with_ordinals [] (filter (is_at place) os)) g ≡ first_of (is_in_group group) os g
  first_in_row g = ap₂ option_or (gender_row g) (gender_row None)

-- ---- the place of each group

at_two : (n slot : ℕ) (m : Option OrdinalMatch) → 10 ≤ slot → slot ≤ 99 → slot ≡ digits_for m slot n → slot ≡ n % 100
at_two n slot None low high e = e ∙ by_size (nat_lt slot 10) refl
  where
    by_size : (b : Bool) → nat_lt slot 10 ≡ b → (if b then n % 10 else n % 100) ≡ n % 100
    by_size true small = absurd (omega (arith, leb-true _ _ small))
    by_size false small = refl
at_two n slot (Some LastDigit) low high e = absurd (omega arith)
at_two n slot (Some LastTwoDigits) low high e = e
at_two n slot (Some WholeNumber) low high e = omega arith

at_one : (n slot : ℕ) (m : Option OrdinalMatch) → slot ≤ 9 → slot ≡ digits_for m slot n → slot ≡ n % 10
at_one n slot None high e = e ∙ by_size (nat_lt slot 10) refl
  where
    by_size : (b : Bool) → nat_lt slot 10 ≡ b → (if b then n % 10 else n % 100) ≡ n % 10
    by_size true small = refl
    by_size false small = absurd (false≢true (sym small ∙ lt-true))
      where
        lt-true : nat_lt slot 10 ≡ true
        lt-true = lt-ltb slot 10 (omega arith)
at_one n slot (Some LastDigit) high e = e
at_one n slot (Some LastTwoDigits) high e = omega arith
at_one n slot (Some WholeNumber) high e = omega arith

two_digits : (n : ℕ) (slot : OrdinalSlot) (m : Option OrdinalMatch) → slot_between 10 99 n slot m ≡ true → (slot_place slot == n % 100) ≡ true
two_digits n Default m e = absurd (false≢true e)
two_digits n (Long w) m e = absurd (false≢true e)
two_digits n (Two s) m e =
    let low = and_parts (nat_le 10 s) (nat_le s 99 && (s == digits_for m s n)) e in
    let high = and_parts (nat_le s 99) (s == digits_for m s n) low.1 in
    eq-eqb s (n % 100) (at_two n s m (leb-true _ _ low.0) (leb-true _ _ high.0) (eqb-true _ _ high.1))

one_digit : (n : ℕ) (slot : OrdinalSlot) (m : Option OrdinalMatch) → slot_between 0 9 n slot m ≡ true → (slot_place slot == n % 10) ≡ true
one_digit n Default m e = absurd (false≢true e)
one_digit n (Long w) m e = absurd (false≢true e)
one_digit n (Two s) m e =
    let low = and_parts (nat_le 0 s) (nat_le s 9 && (s == digits_for m s n)) e in
    let high = and_parts (nat_le s 9) (s == digits_for m s n) low.1 in
    eq-eqb s (n % 10) (at_one n s m (leb-true _ _ high.0) (eqb-true _ _ high.1))

pub by_two_digits : (n : ℕ) (o : OrdinalView) → is_between 10 99 n o ≡ true → is_at (n % 100) o ≡ true
by_two_digits n o e = two_digits n o.slot o.matching e

pub by_one_digit : (n : ℕ) (o : OrdinalView) → is_between 0 9 n o ≡ true → is_at (n % 10) o ≡ true
by_one_digit n o e = one_digit n o.slot o.matching e

pub by_slot : (slot : OrdinalSlot) (o : OrdinalView) → is_in slot o ≡ true → is_at (slot_place slot) o ≡ true
by_slot slot o e = eq-eqb _ _ (ap slot_place ((slot_decides o.slot slot).0 e))

-- ---- a table that gets an ordinal more

-- with the ordinals that are left, each row has those of its place
pub record AreRowsSoFar (rows : List (Vec OrdinalTerm Global)) (left all : List OrdinalView) : Type 0 where
  pub count : length rows ≡ 111
  pub holds : (place : ℕ) → place < 111 → with_ordinals (slice_index_or (row_views rows) place []) (filter (is_at place) left) ≡ with_ordinals [] (filter (is_at place) all)

pub views_set : (rows : List (Vec OrdinalTerm Global)) (q : ℕ) (v : Vec OrdinalTerm Global) → row_views (slice_set rows q v) ≡ slice_set (row_views rows) q (map ordinal_view v.items)
views_set [] q v = refl
views_set (r ∷ rows) zero v = refl
views_set (r ∷ rows) (suc q) v = ap (λ rs. map ordinal_view r.items ∷ rs) (views_set rows q v)

length_views : (rows : List (Vec OrdinalTerm Global)) → length (row_views rows) ≡ length rows
length_views [] = refl
length_views (r ∷ rows) = ap suc (length_views rows)

pub no_ordinals : (rows : List (Vec OrdinalTerm Global)) (all : List OrdinalView) → row_views rows ≡ replicate 111 [] → AreRowsSoFar rows all all
no_ordinals rows all is = record {
  count = sym (length_views rows) ∙ ap length is;
  holds = λ place within. ap (λ row. with_ordinals row (filter (is_at place) all)) (ap (λ rs. slice_index_or rs place []) is ∙ empty 111 place);
}
  where
    none : List OrdinalView
    none = []

    empty : (n i : ℕ) → slice_index_or (replicate n none) i none ≡ none
    empty zero i = refl
    empty (suc n) zero = refl
    empty (suc n) (suc i) = empty n i

module _ (rows : List (Vec OrdinalTerm Global)) (o : OrdinalView) (left all : List OrdinalView) (is : AreRowsSoFar rows (o ∷ left) all) where
  elsewhere : (place : ℕ) → ((slot_place o.slot ≡ place) → ⊥) → place < 111 → with_ordinals (slice_index_or (row_views rows) place []) (filter (is_at place) left) ≡ with_ordinals [] (filter (is_at place) all)
  elsewhere place apart within = subst (λ b. with_ordinals (slice_index_or (row_views rows) place []) (cond b (o ∷ filter (is_at place) left) (filter (is_at place) left)) ≡ with_ordinals [] (filter (is_at place) all)) (ne_eqb (slot_place o.slot) place apart) (is.holds place within)

  here : (place : ℕ) → slot_place o.slot ≡ place → place < 111 → with_ordinals (with_ordinal (slice_index_or (row_views rows) place []) o) (filter (is_at place) left) ≡ with_ordinals [] (filter (is_at place) all)
  here place same within = subst (λ b. with_ordinals (slice_index_or (row_views rows) place []) (cond b (o ∷ filter (is_at place) left) (filter (is_at place) left)) ≡ with_ordinals [] (filter (is_at place) all)) (eq-eqb (slot_place o.slot) place same) (is.holds place within)

  -- its slot has no row
  pub one_left_out : 111 ≤ slot_place o.slot → AreRowsSoFar rows left all
  one_left_out past = record { count = is.count; holds = λ place within. elsewhere place (λ e. omega (arith, e)) within }

  -- its slot has one
  pub one_more : (v : Vec OrdinalTerm Global) (q : ℕ) → q ≡ slot_place o.slot → q < 111 → map ordinal_view v.items ≡ with_ordinal (slice_index_or (row_views rows) q []) o → AreRowsSoFar (slice_set rows q v) left all
  one_more v q at within-q row = record {
    count = length-set-same ∙ is.count;
    holds = λ place within. elim (cases_eq (slot_place o.slot) place) [
      | inl same ↦
          let q-place : q ≡ place = at ∙ same in
          ap (λ r. with_ordinals r (filter (is_at place) left)) (new place q-place within) ∙ here place same within
      | inr apart ↦ ap (λ r. with_ordinals r (filter (is_at place) left)) (old place (λ e. apart (sym at ∙ sym e))) ∙ elsewhere place apart within
    ];
  }
    where
      length-set-same : length (slice_set rows q v) ≡ length rows
      length-set-same = search (rules, arith)

      new : (place : ℕ) → q ≡ place → place < 111 → slice_index_or (row_views (slice_set rows q v)) place [] ≡ with_ordinal (slice_index_or (row_views rows) place []) o
      new place same within =
          ap (λ rs. slice_index_or rs place []) (views_set rows q v)
          ∙ subst (λ k. slice_index_or (slice_set (row_views rows) q (map ordinal_view v.items)) k [] ≡ with_ordinal (slice_index_or (row_views rows) k []) o) same
          (get_or-set_same (row_views rows) q (map ordinal_view v.items) [] (omega (arith, length_views rows, is.count)) ∙ row)

      old : (place : ℕ) → (place ≡ q → ⊥) → slice_index_or (row_views (slice_set rows q v)) place [] ≡ slice_index_or (row_views rows) place []
      old place apart = ap (λ rs. slice_index_or rs place []) (views_set rows q v) ∙ get_or-set_other (row_views rows) q place (map ordinal_view v.items) [] apart

-- ---- the row at a place

pub row_view : (rows : List (Vec OrdinalTerm Global)) (place : ℕ) (v : Vec OrdinalTerm Global) → place < length rows → map ordinal_view (slice_index_or rows place v).items ≡ slice_index_or (row_views rows) place []
row_view rows place v within = sym (get_or-map (λ row. map ordinal_view row.items) rows place v [] within)
