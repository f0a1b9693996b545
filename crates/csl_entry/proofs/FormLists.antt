-- Lists of forms as the code stores them, after a change of one list.
use Rattle.std.proofs.Common.{◌≡◌, refl, sym, ◌∙◌, ap, ℕ, zero, suc, ◌+◌, ◌<◌, List, [], ◌∷◌, ◌++◌, length, take, drop, map, Bool, not, cond, nat_lt, Option, Some, None, slice_index_or, slice_set, slice_get, true, nat_le, subst, ◌≤◌, Vec, Global, arith}
use Rattle.std.specs.List.{prefix_len, position}
use Rattle.std.specs.Vec.{with_items}
use Rattle.std.proofs.lemmas.List.{length-map, map-set, get_or-map, get_or-set_same, set-get_or, with_items_is}
use Rattle.std.specs.Option.{option_map_or, IsSomeAnd, ForSome}
use Rattle.std.proofs.lemmas.List.Quantifiers.{position-Some}
use Rattle.std.proofs.lemmas.Bool.Decides.{nat_tests}
use Rattle.csl_entry.specs.declared.forms.name_form.DisambiguatedNameForm.{DisambiguatedNameForm}
use Rattle.csl_entry.specs.declared.forms.name_properties.NameDisambiguationProperties.{NameDisambiguationProperties}
use Rattle.csl_entry.specs.NameProperties.{NameForms, NameProperties, first_as_long, with_list}

-- one more item is mapped, if the items before place i are mapped already
pub mapped_more : {X : Type 0} (f : X → X) (xs : List X) (i : ℕ) (d : X) → i < length xs → slice_set (map f (take i xs) ++ drop i xs) i (f (slice_index_or (map f (take i xs) ++ drop i xs) i d)) ≡ map f (take (suc i) xs) ++ drop (suc i) xs
mapped_more f [] i d h = absurd (omega (arith, h))
mapped_more f (x ∷ xs) zero d h = refl
mapped_more f (x ∷ xs) (suc i) d h = ap (λ ys. f x ∷ ys) (mapped_more f xs i d (omega (arith, h)))

prefix_len_map : {A B : Type 0} (p : B → Bool) (f : A → B) (xs : List A) → prefix_len p (map f xs) ≡ prefix_len (λ x. p (f x)) xs
prefix_len_map p f [] = refl
prefix_len_map p f (x ∷ xs) = ap (λ (n : ℕ). cond (p (f x)) (1 + n) 0) (prefix_len_map p f xs)

-- the first position of an item whose image under f passes
pub position_map : {A B : Type 0} (p : B → Bool) (f : A → B) (xs : List A) → position p (map f xs) ≡ position (λ x. p (f x)) xs
position_map p f xs =
    let before = prefix_len_map (λ x. not (p x)) f xs in
    λ i. cond (nat_lt (before i) (length-map xs f i)) (Some (before i)) None

at_most : (n m : ℕ) → nat_le n m ≡ true → n ≤ m
at_most n m h = grind (arith, nat_tests)

-- if one stored list is changed, the lists are those of `with_list`
pub list_changed : (xs : List (Vec (Option DisambiguatedNameForm) Global)) (place : ℕ) (v : Vec (Option DisambiguatedNameForm) Global) (change : NameForms → NameForms) (ws : NameForms) → place < length xs → v ≡ slice_index_or xs place v → length ws ≡ v.len → ws ≡ change v.items → map (λ forms. forms.items) (slice_set xs place (with_items v ws)) ≡ with_list (map (λ forms. forms.items) xs) change place
list_changed xs place v change ws inside is as_long e =
    map-set (λ forms. forms.items) xs place (with_items v ws)
    ∙ ap (λ (ys : NameForms). slice_set (map (λ forms. forms.items) xs) place ys) (with_items_is v ws as_long ∙ e ∙ ap change (ap (λ u. u.items) is ∙ sym (get_or-map (λ forms. forms.items) xs place v [] inside)))

-- the properties with other lists
abbrev pub with_lists : NameDisambiguationProperties → List NameForms → NameProperties
with_lists p lists = record { default_form = p.default_name_form; variables = p.variables.items; lists = lists }

abbrev lists_of : NameDisambiguationProperties → List NameForms
lists_of p = map (λ forms. forms.items) p.name_forms.items

-- the stored list at the place that was found is changed
pub changed_at : (p : NameDisambiguationProperties) (found : Option ℕ) (place : ℕ) (v : Vec (Option DisambiguatedNameForm) Global) (change : NameForms → NameForms) (ws : NameForms) → Some place ≡ found → place < length p.name_forms.items → v ≡ slice_index_or p.name_forms.items place v → length ws ≡ v.len → ws ≡ change v.items
    → with_lists p (map (λ forms. forms.items) (slice_set p.name_forms.items place (with_items v ws))) ≡ with_lists p (option_map_or (with_list (lists_of p) change) found (lists_of p))
changed_at p found place v change ws at inside is as_long e =
    ap (with_lists p) (list_changed p.name_forms.items place v change ws inside is as_long e ∙ ap (λ o. option_map_or (with_list (lists_of p) change) o (lists_of p)) at)

-- a list that was found by its length is in range and has at least n forms
pub long_enough : (n : ℕ) (xs : List (Vec (Option DisambiguatedNameForm) Global)) (place : ℕ) (v : Vec (Option DisambiguatedNameForm) Global) → Some place ≡ first_as_long n (map (λ forms. forms.items) xs) → v ≡ slice_index_or xs place v → (place < length xs) × (n ≤ length v.items)
long_enough n xs place v at is =
    let first = position-Some (λ forms. nat_le n (length forms)) (map (λ forms. forms.items) xs) place [] (sym at) in
    let inside : place < length xs = omega (arith, first.0, length-map xs (λ forms. forms.items)) in
    let same : slice_index_or (map (λ forms. forms.items) xs) place [] ≡ v.items = get_or-map (λ forms. forms.items) xs place v [] inside ∙ sym (ap (λ u. u.items) is) in
    (inside, at_most n (length v.items) (ap (λ (forms : NameForms). nat_le n (length forms)) (sym same) ∙ first.1))

-- a place that has a list with the property P is in range
pub stands_at : (xs : List (Vec (Option DisambiguatedNameForm) Global)) (place : ℕ) (P : NameForms → Type 0) → IsSomeAnd (slice_get (map (λ forms. forms.items) xs) place) P → place < length xs
stands_at [] place P h = absurd h
stands_at (x ∷ xs) zero P h = omega arith
stands_at (x ∷ xs) (suc place) P h = let more = stands_at xs place P h in omega arith

pub holds_at : (xs : List (Vec (Option DisambiguatedNameForm) Global)) (place : ℕ) (v : Vec (Option DisambiguatedNameForm) Global) (P : NameForms → Type 0) → IsSomeAnd (slice_get (map (λ forms. forms.items) xs) place) P → v ≡ slice_index_or xs place v → P v.items
holds_at [] place v P h is = absurd h
holds_at (x ∷ xs) zero v P h is = subst (λ (u : Vec (Option DisambiguatedNameForm) Global). P u.items) (sym is) h
holds_at (x ∷ xs) (suc place) v P h is = holds_at xs place v P h is

stands_there : (xs : List (Vec (Option DisambiguatedNameForm) Global)) (place : ℕ) (v : Vec (Option DisambiguatedNameForm) Global) (P : NameForms → Type 0) → place < length xs → v ≡ slice_index_or xs place v → P v.items → IsSomeAnd (slice_get (map (λ forms. forms.items) xs) place) P
stands_there [] place v P inside is h = absurd (omega (arith, inside))
stands_there (x ∷ xs) zero v P inside is h = subst (λ (u : Vec (Option DisambiguatedNameForm) Global). P u.items) is h
stands_there (x ∷ xs) (suc place) v P inside is h = stands_there xs place v P (omega (arith, inside)) is h

same_place : (i k : ℕ) (found : Option ℕ) → Some i ≡ found → found ≡ Some k → i ≡ k
same_place i k found at there = cc

-- the place that was found has a list with the property P
pub holds_there : (found : Option ℕ) (xs : List (Vec (Option DisambiguatedNameForm) Global)) (place : ℕ) (v : Vec (Option DisambiguatedNameForm) Global) (P : NameForms → Type 0) → Some place ≡ found → place < length xs → v ≡ slice_index_or xs place v → P v.items → ForSome found (λ i. IsSomeAnd (slice_get (map (λ forms. forms.items) xs) i) P)
holds_there found xs place v P at inside is h = λ k there. subst (λ (i : ℕ). IsSomeAnd (slice_get (map (λ forms. forms.items) xs) i) P) (same_place place k found at there) (stands_there xs place v P inside is h)

-- the lists stay the same exactly if the list that is stored at a place is the one that was there
pub same_after : (xs : List (Vec (Option DisambiguatedNameForm) Global)) (place : ℕ) (v : Vec (Option DisambiguatedNameForm) Global) (ws : NameForms) → place < length xs → v ≡ slice_index_or xs place v → length ws ≡ v.len → ws ≡ v.items → map (λ forms. forms.items) (slice_set xs place (with_items v ws)) ≡ map (λ forms. forms.items) xs
same_after xs place v ws inside is as_long e = list_changed xs place v (λ forms. forms) ws inside is as_long e ∙ set-get_or (map (λ forms. forms.items) xs) place []

pub same_there : (xs : List (Vec (Option DisambiguatedNameForm) Global)) (place : ℕ) (v : Vec (Option DisambiguatedNameForm) Global) (ws : NameForms) → place < length xs → v ≡ slice_index_or xs place v → length ws ≡ v.len → map (λ forms. forms.items) (slice_set xs place (with_items v ws)) ≡ map (λ forms. forms.items) xs → ws ≡ v.items
same_there xs place v ws inside is as_long e =
    let lists = map (λ forms. forms.items) xs in
    let within : place < length lists = omega (arith, inside, length-map xs (λ forms. forms.items)) in
    sym (get_or-set_same lists place ws [] within)
    ∙ ap (λ (ls : List NameForms). slice_index_or ls place []) (sym (list_changed xs place v (λ forms. ws) ws inside is as_long refl) ∙ e)
    ∙ get_or-map (λ forms. forms.items) xs place v [] inside ∙ sym (ap (λ u. u.items) is)
