-- The path leads to the first element of a `cs:names` in preorder.
use Rattle.std.proofs.Common.{◌≡◌, ℕ, ◌+◌, ◌<◌, length, suc, Bool, true, false, List, [], ◌∷◌, map, refl, sym, ap, ◌∙◌, subst, arith, slice_index_or, Option, Some, None, is_some}
use Rattle.std.specs.Prelude.{unwrap_or}
use Rattle.std.specs.List.{flat_map, find}
use Rattle.std.specs.Option.{option_or}
use Rattle.csl_tree.specs.Search.{preorder, child_preorder, is_names, elem_of, layer_elem}
use Rattle.csl_tree.specs.Places.{children_of, layer_children, child_at, no_child}
use Rattle.csl_tree.specs.FindNames.{NamesPosition, absent, here, below, find_of_child, names_find, first_found, found_or, find_from, elem_at, first_names, is_found}
use Rattle.csl_tree.specs.declared.elem.ElemChild.{ElemChild}
use Rattle.csl_tree.specs.declared.elem.ElemChild.TheOpen.{ElemChild-F, Elem-F, ElemChildren-F, Text, Elem, Markup, Link, Transparent}
use Rattle.csl_tree.specs.declared.elem.ElemChild.TheViews.{out-ElemChild, out-roll-ElemChild, roll-ElemChild, roll-Elem, roll-ElemChildren}
use Rattle.csl_tree.specs.declared.elem.ElemChild.TheFolds.{map-ElemChild, map-Elem, map-ElemChildren, ind-ElemChildren}
use Rattle.csl_tree.specs.declared.elem.Elem as elem
use Rattle.csl_tree.specs.declared.elem.ElemChildren.{ElemChildren}
use Rattle.std.proofs.lemmas.List.Folds.{find-append}
use Rattle.csl_tree.proofs.Searches.{preorder_out, child_out, layer_preorder}
use Rattle.csl_tree.proofs.NamesPlace.{find_out, layer_found, Inside, inside, is_nested_path, find_more, paths}
use Rattle.csl_tree.proofs.NamesPlace as place

abbrev elem_below : Option ElemChildren → List ℕ → Option elem.Elem
elem_below None p = None
elem_below (Some d) p = elem_at (Some p) d

abbrev found_in : NamesPosition → ElemChild → Option elem.Elem
found_in absent k = None
found_in here k = elem_of k
found_in (below p) k = elem_below (children_of k) p

-- the first one in a child, and in children
record FirstIn (k : ElemChild) : Type 0 where
  pub is : find is_names (child_preorder k) ≡ found_in (find_of_child k) k
  pub some : is_some (find is_names (child_preorder k)) ≡ is_found (find_of_child k)

record FirstOf (c : ElemChildren) : Type 0 where
  pub is : find is_names (preorder c) ≡ first_names c
  pub some : is_some (find is_names (preorder c)) ≡ is_some (names_find c)

abbrev FirstInside : elem.Elem → Type 0
FirstInside e = FirstOf e.children

elem_here : (k : ElemChild) (a : elem.Elem) → out-ElemChild k ≡ Elem a → FirstOf a.children → (b : Bool) (o : Option (List ℕ)) → is_names a ≡ b → names_find a.children ≡ o → find is_names (a ∷ preorder a.children) ≡ found_in (find_from b o) k
elem_here k a e h true o n f = rw n (sym (ap layer_elem e))
elem_here k a e h false None n f = rw n (h.is ∙ ap (λ o. elem_at o a.children) f)
elem_here k a e h false (Some p) n f = rw n (h.is ∙ ap (λ o. elem_at o a.children) f ∙ sym (ap (λ x. elem_below (layer_children x) p) e))

elem_some : (a : elem.Elem) → FirstOf a.children → (b : Bool) (o : Option (List ℕ)) → is_names a ≡ b → names_find a.children ≡ o → is_some (find is_names (a ∷ preorder a.children)) ≡ is_found (find_from b o)
elem_some a h true o n f = rw n refl
elem_some a h false None n f = rw n (h.some ∙ ap is_some f)
elem_some a h false (Some p) n f = rw n (h.some ∙ ap is_some f)

first_child : (k : ElemChild) (x : ElemChild-F ElemChild elem.Elem ElemChildren) → out-ElemChild k ≡ x → (find is_names (layer_preorder x) ≡ found_in (layer_found x) k) → (is_some (find is_names (layer_preorder x)) ≡ is_found (layer_found x)) → FirstIn k
first_child k x e is some = record {
  is = ap (find is_names) (child_out k ∙ ap layer_preorder e) ∙ is ∙ sym (ap (λ r. found_in r k) (place.child_out k ∙ ap layer_found e));
  some = ap (λ l. is_some (find is_names l)) (child_out k ∙ ap layer_preorder e) ∙ some ∙ sym (ap is_found (place.child_out k ∙ ap layer_found e));
}

child_layer : (y : ElemChild-F ((k : ElemChild) × FirstIn k) ((e : elem.Elem) × FirstInside e) ((c : ElemChildren) × FirstOf c)) → FirstIn (roll-ElemChild (map-ElemChild _ _ _ ElemChild elem.Elem ElemChildren (λ e. e.0) (λ e. e.0) (λ e. e.0) y))
child_layer (Text t) = first_child (roll-ElemChild (Text t)) (Text t) (out-roll-ElemChild (Text t)) refl refl
child_layer (Elem e) =
    let k = roll-ElemChild (Elem e.0) in
    first_child k (Elem e.0) (out-roll-ElemChild (Elem e.0)) (elem_here k e.0 (out-roll-ElemChild (Elem e.0)) e.1 (is_names e.0) (names_find e.0.children) refl refl) (elem_some e.0 e.1 (is_names e.0) (names_find e.0.children) refl refl)
child_layer (Markup s) = first_child (roll-ElemChild (Markup s)) (Markup s) (out-roll-ElemChild (Markup s)) refl refl
child_layer (Link t u) = first_child (roll-ElemChild (Link t u)) (Link t u) (out-roll-ElemChild (Link t u)) refl refl
child_layer (Transparent n f) = first_child (roll-ElemChild (Transparent n f)) (Transparent n f) (out-roll-ElemChild (Transparent n f)) refl refl

elem_layer : (y : Elem-F ((k : ElemChild) × FirstIn k) ((e : elem.Elem) × FirstInside e) ((c : ElemChildren) × FirstOf c)) → FirstInside (roll-Elem (map-Elem _ _ _ ElemChild elem.Elem ElemChildren (λ e. e.0) (λ e. e.0) (λ e. e.0) y))
elem_layer y = y.children.1

or_some : {A : Type 0} (a b : Option A) → is_some a ≡ true → option_or a b ≡ a
or_some None b h = cc
or_some (Some x) b h = refl

-- the first one among the children `ks`, which are those from `j` on
record From (c : ElemChildren) (ks : List ElemChild) (j : ℕ) : Type 0 where
  pub is : find is_names (flat_map child_preorder ks) ≡ elem_at (first_found j (map find_of_child ks)) c
  pub some : is_some (find is_names (flat_map child_preorder ks)) ≡ is_some (first_found j (map find_of_child ks))

deeper : (c : ElemChildren) (k : ElemChild) (j : ℕ) (p : List ℕ) → k ≡ child_at c j → (n : Inside (children_of k) p) → is_nested_path p ≡ true → elem_below (children_of k) p ≡ elem_at (Some (j ∷ p)) c
deeper c k j [] at n m = cc
deeper c k j (q ∷ p) at n m = ap (λ o. elem_below o (q ∷ p)) n.is ∙ ap (elem_at (Some (q ∷ p))) (sym (ap (λ y. unwrap_or (children_of y) c) (sym at) ∙ ap (λ o. unwrap_or o c) n.is))

from_child : (c : ElemChildren) (k : ElemChild) (ks : List ElemChild) (j : ℕ) → FirstIn k → k ≡ child_at c j → From c ks (j + 1) → (r : NamesPosition) → find_of_child k ≡ r
    → (option_or (find is_names (child_preorder k)) (find is_names (flat_map child_preorder ks)) ≡ elem_at (found_or j r (first_found (j + 1) (map find_of_child ks))) c)
    × (is_some (option_or (find is_names (child_preorder k)) (find is_names (flat_map child_preorder ks))) ≡ is_some (found_or j r (first_found (j + 1) (map find_of_child ks))))
from_child c k ks j one at rest absent e =
    let none : find is_names (child_preorder k) ≡ None = one.is ∙ ap (λ r. found_in r k) e in
    let skip : option_or (find is_names (child_preorder k)) (find is_names (flat_map child_preorder ks)) ≡ find is_names (flat_map child_preorder ks) = ap (λ o. option_or o (find is_names (flat_map child_preorder ks))) none in
    (skip ∙ rest.is, ap is_some skip ∙ rest.some)
from_child c k ks j one at rest here e =
    let some : is_some (find is_names (child_preorder k)) ≡ true = one.some ∙ ap is_found e in
    let stay = or_some (find is_names (child_preorder k)) (find is_names (flat_map child_preorder ks)) some in
    (stay ∙ one.is ∙ ap (λ r. found_in r k) e ∙ ap elem_of at, ap is_some stay ∙ some)
from_child c k ks j one at rest (below p) e =
    let some : is_some (find is_names (child_preorder k)) ≡ true = one.some ∙ ap is_found e in
    let stay = or_some (find is_names (child_preorder k)) (find is_names (flat_map child_preorder ks)) some in
    let n = inside (out-ElemChild k) p (sym (place.child_out k) ∙ e) in
    let further : is_nested_path p ≡ true = ap (λ o. is_nested_path (paths o)) (sym n.found) ∙ find_more n.inner (ap is_some n.found) in
    (stay ∙ one.is ∙ ap (λ r. found_in r k) e ∙ deeper c k j p at n further, ap is_some stay ∙ some)

from_all : (c : ElemChildren) (ks : List ((k : ElemChild) × FirstIn k)) (j : ℕ) → ((m : ℕ) → m < length ks → slice_index_or (map (λ e. e.0) ks) m no_child ≡ child_at c (j + m)) → From c (map (λ e. e.0) ks) j
from_all c [] j at = record { is = refl; some = refl }
from_all c (k ∷ ks) j at =
    let rest = from_all c ks (j + 1) (λ m l. at (suc m) (omega (arith, l)) ∙ ap (child_at c) (omega arith)) in
    let here : k.0 ≡ child_at c j = at 0 (omega arith) ∙ ap (child_at c) (omega arith) in
    let both = from_child c k.0 (map (λ e. e.0) ks) j k.1 here rest (find_of_child k.0) refl in
    let split = find-append is_names (child_preorder k.0) (flat_map child_preorder (map (λ e. e.0) ks)) in
    record { is = split ∙ both.0; some = ap is_some split ∙ both.1 }

children_layer : (y : ElemChildren-F ((k : ElemChild) × FirstIn k) ((e : elem.Elem) × FirstInside e) ((c : ElemChildren) × FirstOf c)) → FirstOf (roll-ElemChildren (map-ElemChildren _ _ _ ElemChild elem.Elem ElemChildren (λ e. e.0) (λ e. e.0) (λ e. e.0) y))
children_layer y =
    let c : ElemChildren = roll-ElemChildren (map-ElemChildren _ _ _ ElemChild elem.Elem ElemChildren (λ e. e.0) (λ e. e.0) (λ e. e.0) y) in
    let all = from_all c y.0.items 0 (λ m l. ap (child_at c) (omega arith)) in
    record {
      is = ap (find is_names) (preorder_out c) ∙ all.is ∙ sym (ap (λ o. elem_at o c) (find_out c));
      some = ap (λ l. is_some (find is_names l)) (preorder_out c) ∙ all.some ∙ sym (ap is_some (find_out c));
    }

first_of : (c : ElemChildren) → FirstOf c
first_of = ind-ElemChildren FirstIn FirstInside FirstOf
    (λ x y is. subst (λ z. FirstIn (roll-ElemChild z)) is (child_layer y))
    (λ x y is. subst (λ z. FirstInside (roll-Elem z)) is (elem_layer y))
    (λ x y is. subst (λ z. FirstOf (roll-ElemChildren z)) is (children_layer y))

-- the path leads to the first element of a `cs:names` in preorder
pub first_is : (c : ElemChildren) → find is_names (preorder c) ≡ first_names c
first_is c = (first_of c).is
