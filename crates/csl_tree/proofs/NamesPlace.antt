-- Where the path to the first element of a `cs:names` leads.
use Rattle.std.proofs.Common.{◌≡◌, ℕ, ◌+◌, ◌<◌, suc, Bool, true, false, List, [], ◌∷◌, length, map, refl, sym, ap, ◌∙◌, arith, slice_index_or, Option, Some, None, is_some}
use Rattle.std.specs.Prelude.{unwrap_or}
use Rattle.std.specs.declared.vec.Vec.{Vec}
use Rattle.std.specs.declared.alloc.Global.{Global}
use Rattle.csl_tree.specs.Places.{children_of, layer_children, child_at, put_child, descend, get_at, put_at, first_of, no_child}
use Rattle.csl_tree.specs.Walks.{has_next, index_towards, items_towards, put_items_towards}
use Rattle.csl_tree.specs.declared.places.Target.TheVariants.{Names}
use Rattle.csl_tree.specs.FindNames.{NamesPosition, absent, here, below, find_child, find_elem, find_children, find_from, first_found, found_or, names_find, find_of_child, parent_path, optional_parent_path, names_path, is_found, is_here, any_is_here, here_index, end_of, elem_at, put_elem_at, first_names, put_first_names}
use Rattle.std.specs.Vec.{with_item}
use Rattle.csl_tree.specs.declared.elem.ElemChild.TheVariants as variants
use Rattle.csl_tree.specs.declared.elem.ElemChild.{ElemChild}
use Rattle.csl_tree.specs.declared.elem.ElemChild.TheOpen.{ElemChild-F, Text, Elem, Markup, Link, Transparent}
use Rattle.csl_tree.specs.declared.elem.ElemChild.TheViews.{out-ElemChild}
use Rattle.csl_tree.specs.declared.elem.ElemChild.TheFolds.{fold-Elem, fold_out-ElemChild, fold_out-Elem, fold_out-ElemChildren, map-ElemChild}
use Rattle.csl_tree.specs.declared.elem.Elem as elem
use Rattle.csl_tree.specs.declared.elem.ElemChildren.{ElemChildren}
use Rattle.csl_tree.specs.Search.{is_names_meta, elem_of}
use Rattle.csl_tree.proofs.Indices.{at_index}

abbrev pub layer_found : ElemChild-F ElemChild elem.Elem ElemChildren → NamesPosition
layer_found (Text t) = absent
layer_found (Elem e) = find_from (is_names_meta e.meta) (names_find e.children)
layer_found (Markup s) = absent
layer_found (Link t u) = absent
layer_found (Transparent n f) = absent

layer_is : (x : ElemChild-F ElemChild elem.Elem ElemChildren) → find_child (map-ElemChild ElemChild elem.Elem ElemChildren NamesPosition NamesPosition (Option (List ℕ)) find_of_child (fold-Elem NamesPosition NamesPosition (Option (List ℕ)) find_child find_elem find_children) names_find x) ≡ layer_found x
layer_is (Text f) = refl
layer_is (Elem e) = fold_out-Elem NamesPosition NamesPosition (Option (List ℕ)) find_child find_elem find_children e
layer_is (Markup s) = refl
layer_is (Link f url) = refl
layer_is (Transparent n f) = refl

pub child_out : (k : ElemChild) → find_of_child k ≡ layer_found (out-ElemChild k)
child_out k = fold_out-ElemChild NamesPosition NamesPosition (Option (List ℕ)) find_child find_elem find_children k ∙ layer_is (out-ElemChild k)

pub find_out : (c : ElemChildren) → names_find c ≡ first_found 0 (map find_of_child c.0.items)
find_out c = fold_out-ElemChildren NamesPosition NamesPosition (Option (List ℕ)) find_child find_elem find_children c

abbrev pub is_nested_path : List ℕ → Bool
is_nested_path p = is_some (first_of p)

abbrev first_index : List ℕ → ℕ
first_index p = unwrap_or (first_of p) 0

abbrev heads : Option (List ℕ) → ℕ
heads None = 0
heads (Some p) = first_index p

abbrev rest : List ℕ → List ℕ
rest [] = []
rest (i ∷ p) = p

abbrev rests : Option (List ℕ) → List ℕ
rests None = []
rests (Some p) = rest p

abbrev below_path : NamesPosition → List ℕ
below_path absent = []
below_path here = []
below_path (below p) = p

abbrev pub paths : Option (List ℕ) → List ℕ
paths None = []
paths (Some p) = p

-- the child at which the path goes down
record At (xs : List ElemChild) (j i : ℕ) (p : List ℕ) : Type 0 where
  pub m : ℕ
  pub is : i ≡ j + m
  pub found : find_of_child (slice_index_or xs m no_child) ≡ below p

not_more : (p : List ℕ) → [] ≡ p → is_nested_path p ≡ true → ⊥
not_more [] e h = cc
not_more (i ∷ p) e h = let f = ap is_nested_path e in cc

at_or : (x : ElemChild) (xs : List ElemChild) (r : NamesPosition) (j i : ℕ) (p : List ℕ) (o : Option (List ℕ)) → (o ≡ Some (i ∷ p) → At xs (j + 1) i p) → find_of_child x ≡ r → found_or j r o ≡ Some (i ∷ p) → is_nested_path p ≡ true → At (x ∷ xs) j i p
at_or x xs absent j i p o ih r e h = let a = ih e in record { m = suc a.m; is = omega (arith, a.is); found = a.found }
at_or x xs here j i p o ih r e h = absurd (not_more p (ap rests e) h)
at_or x xs (below q) j i p o ih r e h = let f = ap heads e in record { m = 0; is = omega (arith, f); found = r ∙ ap below (ap rests e) }

at : (xs : List ElemChild) (j i : ℕ) (p : List ℕ) → first_found j (map find_of_child xs) ≡ Some (i ∷ p) → is_nested_path p ≡ true → At xs j i p
at [] j i p e h = cc
at (x ∷ xs) j i p e h = at_or x xs (find_of_child x) j i p (first_found (j + 1) (map find_of_child xs)) (λ f. at xs (j + 1) i p f h) refl e h

pub record Inside (o : Option ElemChildren) (p : List ℕ) : Type 0 where
  pub inner : ElemChildren
  pub is : o ≡ Some inner
  pub found : names_find inner ≡ Some p

inside_of : (b : Bool) (d : ElemChildren) (r : Option (List ℕ)) (p : List ℕ) → names_find d ≡ r → find_from b r ≡ below p → Inside (Some d) p
inside_of true d r p e h = cc
inside_of false d None p e h = cc
inside_of false d (Some q) p e h = record { inner = d; is = refl; found = e ∙ ap Some (ap below_path h) }

pub inside : (x : ElemChild-F ElemChild elem.Elem ElemChildren) (p : List ℕ) → layer_found x ≡ below p → Inside (layer_children x) p
inside (Text t) p h = cc
inside (Elem e) p h = inside_of (is_names_meta e.meta) e.children (names_find e.children) p refl h
inside (Markup s) p h = cc
inside (Link t u) p h = cc
inside (Transparent n f) p h = cc

record Below (c : ElemChildren) : Type 0 where
  pub i : ℕ
  pub p : List ℕ
  pub found : names_find c ≡ Some (i ∷ p)
  pub further : is_nested_path p ≡ true
  pub path : parent_path (i ∷ p) ≡ i ∷ parent_path p

below_of : (c : ElemChildren) (o : Option (List ℕ)) → names_find c ≡ o → is_nested_path (optional_parent_path o) ≡ true → Below c
below_of c None e h = cc
below_of c (Some []) e h = cc
below_of c (Some (i ∷ [])) e h = cc
below_of c (Some (i ∷ j ∷ p)) e h = record { i = i; p = j ∷ p; found = e; further = refl; path = refl }

path_is : (c : ElemChildren) (b : Below c) → names_path c ≡ b.i ∷ parent_path b.p
path_is c b = ap optional_parent_path b.found ∙ b.path

child_in : (c : ElemChildren) (b : Below c) → Inside (children_of (child_at c (index_towards Names c))) b.p
child_in c b =
    let a = at c.0.items 0 b.i b.p (sym (find_out c) ∙ b.found) b.further in
    let index : a.m ≡ index_towards Names c = omega (arith, a.is, ap first_index (path_is c b)) in
    inside (out-ElemChild (child_at c (index_towards Names c))) b.p (sym (child_out (child_at c (index_towards Names c))) ∙ ap (λ k. find_of_child (child_at c k)) (sym index) ∙ a.found)

inner_is : (o : Option ElemChildren) (d e : ElemChildren) → Some d ≡ o → o ≡ Some e → d ≡ e
inner_is o d e h k = ap (λ x. unwrap_or x d) (h ∙ k)

-- the path goes on in the children of that child
pub further : (c d : ElemChildren) (x : ElemChild) → x ≡ child_at c (index_towards Names c) → Some d ≡ children_of x → has_next Names c ≡ true → names_path c ≡ index_towards Names c ∷ names_path d
further c d x is has e =
    let b = below_of c (names_find c) refl e in
    let n = child_in c b in
    let same : d ≡ n.inner = inner_is _ d n.inner (has ∙ ap children_of is) n.is in
    let inner : names_path d ≡ parent_path b.p = ap names_path same ∙ ap optional_parent_path n.found in
    path_is c b ∙ ap (λ i. i ∷ parent_path b.p) (sym (ap first_index (path_is c b))) ∙ ap (λ p. index_towards Names c ∷ p) (sym inner)

pub has_children : (c : ElemChildren) (x : ElemChild) → x ≡ child_at c (index_towards Names c) → has_next Names c ≡ true → is_some (children_of x) ≡ true
has_children c x is e = let n = child_in c (below_of c (names_find c) refl e) in ap (λ k. is_some (children_of k)) is ∙ ap is_some n.is

-- a path that is found is not empty
found_more : (i : ℕ) (r : NamesPosition) (o : Option (List ℕ)) → (is_some o ≡ true → is_nested_path (paths o) ≡ true) → is_some (found_or i r o) ≡ true → is_nested_path (paths (found_or i r o)) ≡ true
found_more i absent o ih h = ih h
found_more i here o ih h = refl
found_more i (below p) o ih h = refl

first_more : (i : ℕ) (rs : List NamesPosition) → is_some (first_found i rs) ≡ true → is_nested_path (paths (first_found i rs)) ≡ true
first_more i [] h = cc
first_more i (r ∷ rs) h = found_more i r (first_found (i + 1) rs) (first_more (i + 1) rs) h

pub find_more : (c : ElemChildren) → is_some (names_find c) ≡ true → is_nested_path (paths (names_find c)) ≡ true
find_more c h = ap (λ o. is_nested_path (paths o)) (find_out c) ∙ first_more 0 (map find_of_child c.0.items) (sym (ap is_some (find_out c)) ∙ h)

-- the walk goes on in the child in which the element is found, if that is not the element
next_when : (c : ElemChildren) (k : ElemChild) (i : ℕ) (r : NamesPosition) → find_of_child k ≡ r → is_found r ≡ true → is_here r ≡ false → names_find c ≡ found_or i r None → Some i ≡ first_of (names_path c)
next_when c k i absent r h n e = cc
next_when c k i here r h n e = cc
next_when c k i (below []) r h n e =
    let d = inside (out-ElemChild k) [] (sym (child_out k) ∙ r) in
    absurd (not_more [] refl (ap (λ o. is_nested_path (paths o)) (sym d.found) ∙ find_more d.inner (ap is_some d.found)))
next_when c k i (below (j ∷ p)) r h n e = sym (ap (λ o. first_of (optional_parent_path o)) e)

pub next_is : (c : ElemChildren) (k : ElemChild) (i : ℕ) → i < length c.0.items → k ≡ slice_index_or c.0.items i k → is_found (find_of_child (child_at c i)) ≡ true → is_here (find_of_child k) ≡ false → names_find c ≡ found_or i (find_of_child (child_at c i)) None → Some i ≡ first_of (names_path c)
next_is c k i l is h n e =
    let same : k ≡ child_at c i = at_index c.0.items i i no_child refl l is in
    next_when c (child_at c i) i (find_of_child (child_at c i)) refl h (ap (λ x. is_here (find_of_child x)) (sym same) ∙ n) e

-- ---- at the end of the path
pub record Ends (xs : List ElemChild) (j i : ℕ) : Type 0 where
  pub index : i ≡ here_index xs + j
  pub some : any_is_here xs ≡ true

ends_or : (x : ElemChild) (xs : List ElemChild) (r : NamesPosition) (j i : ℕ) (o : Option (List ℕ)) → (o ≡ Some (i ∷ []) → Ends xs (j + 1) i) → find_of_child x ≡ r → found_or j r o ≡ Some (i ∷ []) → Ends (x ∷ xs) j i
ends_or x xs absent j i o ih r e = let a = ih e in let f = ap is_here r in record { index = rw f (omega (arith, a.index)); some = rw f a.some }
ends_or x xs here j i o ih r e = let f = ap is_here r in let g = ap heads e in record { index = rw f (omega (arith, g)); some = rw f refl }
ends_or x xs (below q) j i o ih r e =
    let n = inside (out-ElemChild x) q (sym (child_out x) ∙ r) in
    let some : is_nested_path q ≡ true = ap (λ o. is_nested_path (paths o)) (sym n.found) ∙ find_more n.inner (ap is_some n.found) in
    absurd (not_more q (sym (ap rests e)) some)

ends : (xs : List ElemChild) (j i : ℕ) → first_found j (map find_of_child xs) ≡ Some (i ∷ []) → Ends xs j i
ends [] j i e = cc
ends (x ∷ xs) j i e = ends_or x xs (find_of_child x) j i (first_found (j + 1) (map find_of_child xs)) (ends xs (j + 1) i) refl e

pub along : (c : ElemChildren) (i : ℕ) (p : List ℕ) → names_find c ≡ Some (i ∷ p) → Ends (get_at (parent_path (i ∷ p)) c).0.items 0 (end_of (i ∷ p))
along c i [] e = ends c.0.items 0 i (sym (find_out c) ∙ e)
along c i (j ∷ p) e =
    let b : Below c = record { i = i; p = j ∷ p; found = e; further = refl; path = refl } in
    let n = child_in c b in
    let same : n.inner ≡ descend c i = sym (ap (λ o. unwrap_or o c) n.is) ∙ ap (λ k. unwrap_or (children_of (child_at c k)) c) (ap first_index (path_is c b)) in
    let a = along n.inner j p n.found in
    record { index = a.index ∙ ap (λ d. here_index (get_at (parent_path (j ∷ p)) d).0.items + 0) same; some = sym (ap (λ d. any_is_here (get_at (parent_path (j ∷ p)) d).0.items) same) ∙ a.some }

here_or : (x : ElemChild) (xs : List ElemChild) (b : Bool) → (any_is_here xs ≡ true → is_here (find_of_child (slice_index_or xs (here_index xs) no_child)) ≡ true) → is_here (find_of_child x) ≡ b → any_is_here (x ∷ xs) ≡ true
    → is_here (find_of_child (slice_index_or (x ∷ xs) (here_index (x ∷ xs)) no_child)) ≡ true
here_or x xs true ih e m = rw e e
here_or x xs false ih e m = rw e (index_more xs (ih (rw e at m)))
  where
    index_more : (ys : List ElemChild) → is_here (find_of_child (slice_index_or ys (here_index ys) no_child)) ≡ true → is_here (find_of_child (slice_index_or (x ∷ ys) (here_index ys + 1) no_child)) ≡ true
    index_more ys h = let plus : here_index ys + 1 ≡ suc (here_index ys) = omega arith in ap (λ m. is_here (find_of_child (slice_index_or (x ∷ ys) m no_child))) plus ∙ h

pub here_at : (xs : List ElemChild) → any_is_here xs ≡ true → is_here (find_of_child (slice_index_or xs (here_index xs) no_child)) ≡ true
here_at [] h = cc
here_at (x ∷ xs) h = here_or x xs (is_here (find_of_child x)) (here_at xs) refl h

record Whole (s : ElemChildren) : Type 0 where
  pub p : List ℕ
  pub found : names_find s ≡ Some p
  pub ends_at : Ends (get_at (parent_path p) s).0.items 0 (end_of p)

whole_of : (s : ElemChildren) (o : Option (List ℕ)) → names_find s ≡ o → is_some o ≡ true → is_nested_path (paths o) ≡ true → Whole s
whole_of s None e h m = cc
whole_of s (Some []) e h m = cc
whole_of s (Some (i ∷ p)) e h m = record { p = i ∷ p; found = e; ends_at = along s i p e }

module _ (s : ElemChildren) (h : is_some (names_find s) ≡ true) (v : Vec ElemChild Global) (is : v ≡ items_towards Names s) where
  w : Whole s
  w = whole_of s (names_find s) refl h (find_more s h)

  path : names_path s ≡ parent_path w.p
  path = ap optional_parent_path w.found

  abbrev items_along : List ℕ → Vec ElemChild Global
  items_along q = (get_at q s).0

  at_end : v ≡ items_along (parent_path w.p)
  at_end = is ∙ ap items_along path

  pub has_here : any_is_here v.items ≡ true
  has_here = ap (λ u. any_is_here u.items) at_end ∙ w.ends_at.some

  end_is : here_index v.items ≡ end_of w.p
  end_is = ap (λ u. here_index u.items) at_end ∙ omega (arith, w.ends_at.index)

  abbrev put_along : elem.Elem → List ℕ → ℕ → ElemChildren
  put_along e q m = put_at q s (put_child (get_at q s) m (variants.Elem e))

  pub put_names : (n : ℕ) → n ≡ here_index v.items → (e : elem.Elem) → put_items_towards Names s (with_item v n (variants.Elem e)) ≡ put_first_names s e
  put_names n n_is e =
      ap (λ u. put_items_towards Names s (with_item u n (variants.Elem e))) is
      ∙ ap (λ q. put_along e q n) path ∙ ap (put_along e (parent_path w.p)) (n_is ∙ end_is) ∙ ap (λ o. put_elem_at o s e) (sym w.found)

  pub names_are : (n : ℕ) → n ≡ here_index v.items → n < length v.items → (k : ElemChild) → k ≡ slice_index_or v.items n k → elem_of k ≡ first_names s
  names_are n n_is l k k_is =
      ap elem_of (at_index v.items n n no_child refl l k_is ∙ ap (λ u. slice_index_or u.items n no_child) at_end ∙ ap (λ m. child_at (get_at (parent_path w.p) s) m) (n_is ∙ end_is)) ∙ ap (λ o. elem_at o s) (sym w.found)

  pub child_here : (n : ℕ) → n ≡ here_index v.items → n < length v.items → (k : ElemChild) → k ≡ slice_index_or v.items n k → is_here (find_of_child k) ≡ true
  child_here n n_is l k k_is = ap (λ x. is_here (find_of_child x)) (at_index v.items n (here_index v.items) no_child n_is l k_is) ∙ here_at v.items has_here
