-- Names that are there once, and their indices.
use Rattle.std.proofs.Common.{◌≡◌, ◌⊎◌, ◌↔◌, inl, inr, refl, sym, ap, subst, ◌∙◌, ℕ, zero, suc, ◌+◌, Bool, true, false, cond, ◌||◌, List, [], ◌∷◌, ◌++◌, length, take, Some, None, slice_get, bytes_eq, Vec, vec_len, Global}
use Rattle.std.proofs.Math.Seq.{take-append_seam}
use Rattle.std.proofs.lemmas.List.{map-append}
use Rattle.std.proofs.lemmas.Map.Text.{btree_map_updates_str}
use Rattle.std.proofs.lemmas.Slice.Eq.{bytes_eq-Decides}
use Rattle.std.specs.Borrow.{Bor}
use Rattle.std.specs.BTreeMap.{BTreeMap, UpdatesBy, IsEmpty}
use Rattle.std.specs.Cmp.Lexicographic.{slice_cmp}
use Rattle.std.specs.List.{list_any}
use Rattle.std.specs.Ordering.{nat_cmp}
use Rattle.csl_wire_list.specs.Works.{names_of, with_name, index_at, AreIndices}
use Rattle.csl_wire_list.specs.declared.works.NamedWork.{NamedWork}

-- ---- names by their indices

none_there : (name : List ℕ) (i : ℕ) → slice_get [] i ≡ Some name → ⊥
none_there name i h = cc

last_there : (names : List (List ℕ)) (name : List ℕ) → slice_get (names ++ name ∷ []) (length names) ≡ Some name
last_there [] name = refl
last_there (n ∷ names) name = last_there names name

pub still_there : (names more : List (List ℕ)) (i : ℕ) (name : List ℕ) → slice_get names i ≡ Some name → slice_get (names ++ more) i ≡ Some name
still_there [] more i name h = cc
still_there (n ∷ names) more zero name h = h
still_there (n ∷ names) more (suc i) name h = still_there names more i name h

-- a name of the longer list was there, or is the last one
old_or_last : (names : List (List ℕ)) (last : List ℕ) (i : ℕ) (name : List ℕ) → slice_get (names ++ last ∷ []) i ≡ Some name → (slice_get names i ≡ Some name) ⊎ ((i ≡ length names) × (name ≡ last))
old_or_last [] last zero name h = inr (refl, cc)
old_or_last [] last (suc i) name h = cc
old_or_last (n ∷ names) last zero name h = inl h
old_or_last (n ∷ names) last (suc i) name h = further (old_or_last names last i name h)
  where
    further : (slice_get names i ≡ Some name) ⊎ ((i ≡ length names) × (name ≡ last)) → (slice_get names i ≡ Some name) ⊎ ((suc i ≡ suc (length names)) × (name ≡ last))
    further (inl there) = inl there
    further (inr (e, f)) = inr (ap suc e, f)

-- ---- the indices of names

pub nothing_indexed : (indices : BTreeMap (Bor (List ℕ)) ℕ) → IsEmpty indices → AreIndices [] indices
nothing_indexed indices e name i = rw e (λ h. cc, λ h. cc)

pub name_found : (names : List (List ℕ)) (indices : BTreeMap (Bor (List ℕ)) ℕ) (name : List ℕ) (i : ℕ) → AreIndices names indices → index_at indices name ≡ Some i → slice_get names i ≡ Some name
name_found names indices name i h e = (h name i).0 e

module _ (names : List (List ℕ)) (name : List ℕ) (before after : BTreeMap (Bor (List ℕ)) ℕ) (h : AreIndices names before) (absent : index_at before name ≡ None) (updates : UpdatesBy (λ x y. slice_cmp nat_cmp x.now y.now) (λ k. slice_cmp nat_cmp name k.now) before after (Some (length names))) where
  not_there : (i : ℕ) → slice_get names i ≡ Some name → ⊥
  not_there i there = let found : index_at before name ≡ Some i = (h name i).1 there in cc

  same : (i : ℕ) → (Some (length names) ≡ Some i) ↔ (slice_get (names ++ name ∷ []) i ≡ Some name)
  same i = (forth, back)
    where
      forth : Some (length names) ≡ Some i → slice_get (names ++ name ∷ []) i ≡ Some name
      forth e = let is : length names ≡ i = cc in subst (λ j. slice_get (names ++ name ∷ []) j ≡ Some name) is (last_there names name)

      by : (slice_get names i ≡ Some name) ⊎ ((i ≡ length names) × (name ≡ name)) → Some (length names) ≡ Some i
      by (inl there) = absurd (not_there i there)
      by (inr (e, f)) = ap Some (sym e)

      back : slice_get (names ++ name ∷ []) i ≡ Some name → Some (length names) ≡ Some i
      back there = by (old_or_last names name i name there)

  other : (q : List ℕ) → (name ≡ q → ⊥) → (i : ℕ) → (index_at before q ≡ Some i) ↔ (slice_get (names ++ name ∷ []) i ≡ Some q)
  other q differ i = (λ e. still_there names (name ∷ []) i q ((h q i).0 e), back)
    where
      by : (slice_get names i ≡ Some q) ⊎ ((i ≡ length names) × (q ≡ name)) → index_at before q ≡ Some i
      by (inl there) = (h q i).1 there
      by (inr (e, f)) = absurd (differ (sym f))

      back : slice_get (names ++ name ∷ []) i ≡ Some q → index_at before q ≡ Some i
      back there = by (old_or_last names name i q there)

  by_cases : (q : List ℕ) (i : ℕ) (b : Bool) → bytes_eq name q ≡ b → (cond b (Some (length names)) (index_at before q) ≡ Some i) ↔ (slice_get (names ++ name ∷ []) i ≡ Some q)
  by_cases q i true e = subst (λ n. (Some (length names) ≡ Some i) ↔ (slice_get (names ++ name ∷ []) i ≡ Some n)) ((bytes_eq-Decides name q).0 e) (same i)
  by_cases q i false e = other q (λ is. let no : true ≡ false = sym ((bytes_eq-Decides name q).1 is) ∙ e in cc) i

  with_last : AreIndices (names ++ name ∷ []) after
  with_last q i =
      let at = btree_map_updates_str name before after (Some (length names)) updates q in
      subst (λ o. (o ≡ Some i) ↔ (slice_get (names ++ name ∷ []) i ≡ Some q)) (sym at) (by_cases q i (bytes_eq name q) refl)

-- ---- one more work

length_names : (works : List NamedWork) → length (names_of works) ≡ length works
length_names [] = refl
length_names (w ∷ works) = ap suc (length_names works)

names_after : (works : List NamedWork) (w : NamedWork) → names_of (works ++ w ∷ []) ≡ names_of works ++ w.name.now ∷ []
names_after works w = map-append (λ work. work.name.now) works (w ∷ [])

-- the index of one more work
pub last_named : (v u : Vec NamedWork Global) (w : NamedWork) → u.items ≡ v.items ++ w ∷ [] → slice_get (names_of u.items) (vec_len v) ≡ Some w.name.now
last_named v u w e =
    let n : vec_len v ≡ length (names_of v.items) = v.ok.0 ∙ sym (length_names v.items) in
    rw (e, n, names_after v.items w) (last_there (names_of v.items) w.name.now)

-- the indices with that of one more work
pub one_more_indexed : (v u : Vec NamedWork Global) (w : NamedWork) (index : ℕ) (before after : BTreeMap (Bor (List ℕ)) ℕ) → AreIndices (names_of v.items) before → index_at before w.name.now ≡ None → index ≡ vec_len v → u.items ≡ v.items ++ w ∷ [] → UpdatesBy (λ x y. slice_cmp nat_cmp x.now y.now) (λ k. slice_cmp nat_cmp w.name.now k.now) before after (Some index) → AreIndices (names_of u.items) after
one_more_indexed v u w index before after h absent is e updates =
    let n : index ≡ length (names_of v.items) = is ∙ v.ok.0 ∙ sym (length_names v.items) in
    let by : UpdatesBy (λ x y. slice_cmp nat_cmp x.now y.now) (λ k. slice_cmp nat_cmp w.name.now k.now) before after (Some (length (names_of v.items))) = subst (λ m. UpdatesBy (λ x y. slice_cmp nat_cmp x.now y.now) (λ k. slice_cmp nat_cmp w.name.now k.now) before after (Some m)) n updates in
    subst (λ ns. AreIndices ns after) (sym (ap names_of e ∙ names_after v.items w)) (with_last (names_of v.items) w.name.now before after h absent by)

-- the indices without it
pub indexed_before : (v u t : Vec NamedWork Global) (w : NamedWork) (index : ℕ) (before after : BTreeMap (Bor (List ℕ)) ℕ) → AreIndices (names_of v.items) before → index ≡ vec_len v → u.items ≡ v.items ++ w ∷ [] → t.items ≡ take index u.items → after.entries ≡ before.entries → AreIndices (names_of t.items) after
indexed_before v u t w index before after h at e f same =
    let n : index ≡ length v.items = at ∙ v.ok.0 in
    let is : t.items ≡ v.items = f ∙ rw (e, n) (take-append_seam v.items (w ∷ [])) in
    λ q i. rw (same, is) (h q i)

-- ---- one more name

any_there : (name : List ℕ) (names : List (List ℕ)) (i : ℕ) → slice_get names i ≡ Some name → list_any (bytes_eq name) names ≡ true
any_there name [] i h = cc
any_there name (n ∷ names) zero h = let is : name ≡ n = cc in let passes : bytes_eq name n ≡ true = (bytes_eq-Decides name n).1 is in rw passes refl
any_there name (n ∷ names) (suc i) h = rest (bytes_eq name n) (any_there name names i h)
  where
    rest : (b : Bool) → list_any (bytes_eq name) names ≡ true → (b || list_any (bytes_eq name) names) ≡ true
    rest true e = refl
    rest false e = e

any_nowhere : (name : List ℕ) (names : List (List ℕ)) → ((i : ℕ) → slice_get names i ≡ Some name → ⊥) → list_any (bytes_eq name) names ≡ false
any_nowhere name [] h = refl
any_nowhere name (n ∷ names) h = first (bytes_eq name n) refl (any_nowhere name names (λ i there. h (suc i) there))
  where
    first : (b : Bool) → bytes_eq name n ≡ b → list_any (bytes_eq name) names ≡ false → (b || list_any (bytes_eq name) names) ≡ false
    first true e rest = absurd (h 0 (ap Some (sym ((bytes_eq-Decides name n).0 e))))
    first false e rest = rest

-- a name that is there adds nothing
pub name_there : (works : List NamedWork) (name : List ℕ) (indices : BTreeMap (Bor (List ℕ)) ℕ) (i : ℕ) → AreIndices (names_of works) indices → index_at indices name ≡ Some i → names_of works ≡ with_name (names_of works) name
name_there works name indices i h e = let any = any_there name (names_of works) i ((h name i).0 e) in rw any refl

-- one that is not comes last
pub name_added : (v u : Vec NamedWork Global) (w : NamedWork) (indices : BTreeMap (Bor (List ℕ)) ℕ) → AreIndices (names_of v.items) indices → index_at indices w.name.now ≡ None → u.items ≡ v.items ++ w ∷ [] → names_of u.items ≡ with_name (names_of v.items) w.name.now
name_added v u w indices h absent e =
    let none = any_nowhere w.name.now (names_of v.items) (λ i there. let found : index_at indices w.name.now ≡ Some i = (h w.name.now i).1 there in cc) in
    ap names_of e ∙ names_after v.items w ∙ rw none refl
