-- The place of the i-th of all forms.
use Rattle.std.proofs.Common.{◌≡◌, refl, sym, ◌∙◌, ap, ℕ, zero, suc, ◌+◌, ◌-◌, ◌<◌, ◌≤◌, List, [], ◌∷◌, ◌++◌, length, Bool, true, false, nat_lt, Option, Some, None, is_some, slice_index_or, slice_set, slice_get, arith, if◌then◌else◌, option_and_then, map, subst}
use Rattle.std.specs.Option.{option_map}
use Rattle.std.specs.Vec.{with_item}
use Rattle.std.proofs.lemmas.List.{length-map, map-set, get_or-map}
use Rattle.std.proofs.lemmas.Bool.Decides.{nat_tests}
use Rattle.csl_entry.specs.declared.forms.name_form.DisambiguatedNameForm.{DisambiguatedNameForm}
use Rattle.csl_entry.specs.LentForm.{FormList}
use Rattle.csl_entry.specs.NameProperties.{NameForms, all_forms, with_form_at, shown_from}

-- the i-th item of two lists is in the first list, or else in the second
get_first : {X : Type 0} (xs ys : List X) (i : ℕ) → i < length xs → slice_get (xs ++ ys) i ≡ slice_get xs i
get_first [] ys i h = absurd (omega (arith, h))
get_first (x ∷ xs) ys zero h = refl
get_first (x ∷ xs) ys (suc i) h = get_first xs ys i (omega (arith, h))

get_rest : {X : Type 0} (xs ys : List X) (i : ℕ) → length xs ≤ i → slice_get (xs ++ ys) i ≡ slice_get ys (i - length xs)
get_rest [] ys i h = ap (λ (k : ℕ). slice_get ys k) (omega arith)
get_rest (x ∷ xs) ys zero h = absurd (omega (arith, h))
get_rest (x ∷ xs) ys (suc i) h = get_rest xs ys i (omega (arith, h)) ∙ ap (λ (k : ℕ). slice_get ys k) (omega arith)

get_read : (forms : NameForms) (i : ℕ) → i < length forms → slice_get forms i ≡ Some (slice_index_or forms i None)
get_read [] i h = absurd (omega (arith, h))
get_read (f ∷ forms) zero h = refl
get_read (f ∷ forms) (suc i) h = get_read forms i (omega (arith, h))

below : (i n : ℕ) → nat_lt i n ≡ true → i < n
below i n h = grind (arith, nat_tests)

not_below : (i n : ℕ) → nat_lt i n ≡ false → n ≤ i
not_below i n h = grind (arith, nat_tests)

-- the i-th of all forms is at this place and is present; lists are counted from n on
pub record IsShownAt (n i : ℕ) (lists : List NameForms) (at : ℕ × ℕ) : Type 0 where
  pub list : ℕ
  pub counted : at.0 ≡ n + list
  pub inside : list < length lists
  pub within : at.1 < length (slice_index_or lists list [])
  pub form : slice_get (all_forms lists) i ≡ slice_get (slice_index_or lists list []) at.1
  pub shown : is_some (slice_index_or (slice_index_or lists list []) at.1 None) ≡ true
  pub written : (w : DisambiguatedNameForm) → with_form_at i w lists ≡ slice_set lists list (slice_set (slice_index_or lists list []) at.1 (Some w))

mapped_first : (a b : ℕ × ℕ) (form : Option DisambiguatedNameForm) → option_map (λ f. a) form ≡ Some b → (a ≡ b) × (is_some form ≡ true)
mapped_first a b None h = cc
mapped_first a b (Some f) h = (cc, refl)

first_shown_at : (n i : ℕ) (forms : NameForms) (lists : List NameForms) (at : ℕ × ℕ) → nat_lt i (length forms) ≡ true → shown_from n i (forms ∷ lists) ≡ Some at → IsShownAt n i (forms ∷ lists) at
first_shown_at n i forms lists at e h =
    let found = mapped_first (n, i) at (slice_index_or forms i None) (ap (λ (b : Bool). if b then option_map (λ form. (n, i)) (slice_index_or forms i None) else shown_from (n + 1) (i - length forms) lists) (sym e) ∙ h) in
    let low = below i (length forms) e in
    subst (IsShownAt n i (forms ∷ lists)) found.0 (record {
      list = 0;
      counted = omega arith;
      inside = omega arith;
      within = low;
      form = get_first forms (all_forms lists) i low;
      shown = found.1;
      written = λ w. ap (λ (b : Bool). if b then slice_set forms i (Some w) ∷ lists else forms ∷ with_form_at (i - length forms) w lists) e;
    })

later_shown_at : (n i : ℕ) (forms : NameForms) (lists : List NameForms) (at : ℕ × ℕ) → nat_lt i (length forms) ≡ false → IsShownAt (n + 1) (i - length forms) lists at → IsShownAt n i (forms ∷ lists) at
later_shown_at n i forms lists at e more = record {
  list = suc more.list;
  counted = omega (arith, more.counted);
  inside = omega (arith, more.inside);
  within = more.within;
  form = get_rest forms (all_forms lists) i (not_below i (length forms) e) ∙ more.form;
  shown = more.shown;
  written = λ w. ap (λ (b : Bool). if b then slice_set forms i (Some w) ∷ lists else forms ∷ with_form_at (i - length forms) w lists) e ∙ ap (λ (ls : List NameForms). forms ∷ ls) (more.written w);
}

either_shown_at : (n i : ℕ) (forms : NameForms) (lists : List NameForms) (at : ℕ × ℕ) (b : Bool) → nat_lt i (length forms) ≡ b → shown_from n i (forms ∷ lists) ≡ Some at → (shown_from (n + 1) (i - length forms) lists ≡ Some at → IsShownAt (n + 1) (i - length forms) lists at) → IsShownAt n i (forms ∷ lists) at
either_shown_at n i forms lists at true e h more = first_shown_at n i forms lists at e h
either_shown_at n i forms lists at false e h more =
    later_shown_at n i forms lists at e (more (ap (λ (b : Bool). if b then option_map (λ form. (n, i)) (slice_index_or forms i None) else shown_from (n + 1) (i - length forms) lists) (sym e) ∙ h))

pub shown_at_place : (n i : ℕ) (lists : List NameForms) (at : ℕ × ℕ) → shown_from n i lists ≡ Some at → IsShownAt n i lists at
shown_at_place n i [] at h = cc
shown_at_place n i (forms ∷ lists) at h = either_shown_at n i forms lists at (nat_lt i (length forms)) refl h (λ k. shown_at_place (n + 1) (i - length forms) lists at k)

-- ---- if no form is shown

mapped_none : (a : ℕ × ℕ) (form : Option DisambiguatedNameForm) → option_map (λ f. a) form ≡ None → form ≡ None
mapped_none a None h = refl
mapped_none a (Some f) h = cc

either_hidden_at : (n i : ℕ) (forms : NameForms) (lists : List NameForms) (b : Bool) → nat_lt i (length forms) ≡ b → shown_from n i (forms ∷ lists) ≡ None → (shown_from (n + 1) (i - length forms) lists ≡ None → option_and_then (λ f. f) (slice_get (all_forms lists) (i - length forms)) ≡ None) → option_and_then (λ f. f) (slice_get (all_forms (forms ∷ lists)) i) ≡ None
either_hidden_at n i forms lists true e h more =
    let low = below i (length forms) e in
    let absent = mapped_none (n, i) (slice_index_or forms i None) (ap (λ (b : Bool). if b then option_map (λ form. (n, i)) (slice_index_or forms i None) else shown_from (n + 1) (i - length forms) lists) (sym e) ∙ h) in
    ap (λ (o : Option (Option DisambiguatedNameForm)). option_and_then (λ f. f) o) (get_first forms (all_forms lists) i low ∙ get_read forms i low) ∙ absent
either_hidden_at n i forms lists false e h more =
    ap (λ (o : Option (Option DisambiguatedNameForm)). option_and_then (λ f. f) o) (get_rest forms (all_forms lists) i (not_below i (length forms) e))
    ∙ more (ap (λ (b : Bool). if b then option_map (λ form. (n, i)) (slice_index_or forms i None) else shown_from (n + 1) (i - length forms) lists) (sym e) ∙ h)

pub hidden_at : (n i : ℕ) (lists : List NameForms) → shown_from n i lists ≡ None → option_and_then (λ f. f) (slice_get (all_forms lists) i) ≡ None
hidden_at n i [] h = refl
hidden_at n i (forms ∷ lists) h = either_hidden_at n i forms lists (nat_lt i (length forms)) refl h (λ k. hidden_at (n + 1) (i - length forms) lists k)

-- ---- lists as the code stores them

-- the list that has the form is in range
pub list_inside : (xs : List FormList) (i : ℕ) (at : ℕ × ℕ) → Some at ≡ shown_from 0 i (map (λ v. v.items) xs) → at.0 < length xs
list_inside xs i at found =
    let s = shown_at_place 0 i (map (λ v. v.items) xs) at (sym found) in
    omega (arith, s.counted, s.inside, length-map xs (λ v. v.items))

-- the properties of that list as the code stores it
pub record IsLent (xs : List FormList) (i : ℕ) (at : ℕ × ℕ) (v : FormList) : Type 0 where
  pub form : slice_get (all_forms (map (λ u. u.items) xs)) i ≡ slice_get v.items at.1
  pub shown : is_some (option_and_then (λ f. f) (slice_get v.items at.1)) ≡ true
  pub written : (w : DisambiguatedNameForm) → map (λ u. u.items) (slice_set xs at.0 (with_item v at.1 (Some w))) ≡ with_form_at i w (map (λ u. u.items) xs)

pub lent_at : (xs : List FormList) (i : ℕ) (at : ℕ × ℕ) (v : FormList) → Some at ≡ shown_from 0 i (map (λ u. u.items) xs) → v ≡ slice_index_or xs at.0 v → IsLent xs i at v
lent_at xs i at v found is =
    let lists = map (λ u. u.items) xs in
    let s = shown_at_place 0 i lists at (sym found) in
    let place : at.0 ≡ s.list = omega (arith, s.counted) in
    let same : slice_index_or lists s.list [] ≡ v.items =
    ap (λ (k : ℕ). slice_index_or lists k []) (sym place) ∙ get_or-map (λ u. u.items) xs at.0 v [] (list_inside xs i at found) ∙ sym (ap (λ u. u.items) is) in
    let within : at.1 < length v.items = omega (arith, s.within, ap length same) in
    record {
      form = s.form ∙ ap (λ (forms : NameForms). slice_get forms at.1) same;
      shown = ap (λ (o : Option (Option DisambiguatedNameForm)). is_some (option_and_then (λ f. f) o)) (get_read v.items at.1 within) ∙ ap (λ (forms : NameForms). is_some (slice_index_or forms at.1 None)) (sym same) ∙ s.shown;
      written = λ w. map-set (λ u. u.items) xs at.0 (with_item v at.1 (Some w)) ∙ (λ j. slice_set lists (place j) (slice_set (sym same j) at.1 (Some w))) ∙ sym (s.written w);
    }
