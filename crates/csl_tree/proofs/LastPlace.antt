-- The end of a tree, and its last text.
use Rattle.std.proofs.Common.{◌≡◌, ℕ, ◌-◌, ◌<◌, suc, true, List, [], ◌∷◌, length, map, refl, sym, ap, ◌∙◌, arith, slice_index_or, Option, Some, None, is_some, option_map}
use Rattle.std.specs.Prelude.{unwrap_or}
use Rattle.std.specs.declared.vec.Vec.{Vec}
use Rattle.std.specs.declared.alloc.Global.{Global}
use Rattle.std.specs.Vec.{with_item}
use Rattle.csl_tree.specs.Search.{last_text, last_text_of, last_of}
use Rattle.csl_tree.specs.Places.{children_of, layer_children, layer_text, text_of_child, no_child, child_at, get_at, first_of, last, child_path, elem_path, children_path, before_path, last_step, last_path, last_path_of_child, put_last_text}
use Rattle.csl_tree.specs.Walks.{has_next, index_towards, items_towards, put_items_towards}
use Rattle.csl_tree.specs.declared.places.Target.TheVariants.{End}
use Rattle.csl_tree.specs.declared.formatting.Formatted.{Formatted}
use Rattle.csl_tree.specs.declared.elem.ElemChild.{ElemChild}
use Rattle.csl_tree.specs.declared.elem.ElemChild.TheOpen.{ElemChild-F, Text, Elem, Markup, Link, Transparent}
use Rattle.csl_tree.specs.declared.elem.ElemChild.TheViews.{out-ElemChild, outs-Transparent}
use Rattle.csl_tree.specs.declared.elem.ElemChild.TheFolds.{fold-Elem, fold_out-ElemChild, fold_out-Elem, fold_out-ElemChildren, map-ElemChild}
use Rattle.csl_tree.specs.declared.elem.ElemChild.TheVariants as variants
use Rattle.csl_tree.specs.declared.elem.Elem as elem
use Rattle.csl_tree.specs.declared.elem.ElemChildren.{ElemChildren}
use Rattle.csl_tree.proofs.Searches.{layer_last, last_child_out, last_out}
use Rattle.csl_tree.proofs.Indices.{at_index, get_or_map, length_map}

layer_path : (x : ElemChild-F ElemChild elem.Elem ElemChildren) → child_path (map-ElemChild ElemChild elem.Elem ElemChildren (Option (List ℕ)) (List ℕ) (List ℕ) last_path_of_child (fold-Elem (Option (List ℕ)) (List ℕ) (List ℕ) child_path elem_path children_path) last_path x) ≡ option_map last_path (layer_children x)
layer_path (Text f) = refl
layer_path (Elem e) = ap Some (fold_out-Elem (Option (List ℕ)) (List ℕ) (List ℕ) child_path elem_path children_path e)
layer_path (Markup s) = refl
layer_path (Link f url) = refl
layer_path (Transparent n f) = refl

path_of_child : (k : ElemChild) → last_path_of_child k ≡ option_map last_path (children_of k)
path_of_child k = fold_out-ElemChild (Option (List ℕ)) (List ℕ) (List ℕ) child_path elem_path children_path k ∙ layer_path (out-ElemChild k)

no_children : children_of no_child ≡ None
no_children = ap layer_children (outs-Transparent _ _)

pathed : (xs : List ElemChild) → last_step (map last_path_of_child xs) ≡ before_path (length xs - 1) (option_map last_path (children_of (slice_index_or xs (length xs - 1) no_child)))
pathed [] = rw no_children refl
pathed (x ∷ xs) =
    rw (length_map last_path_of_child (x ∷ xs)) (ap (before_path (length (x ∷ xs) - 1)) (get_or_map last_path_of_child (x ∷ xs) (length (x ∷ xs) - 1) no_child None (omega arith) ∙ path_of_child _))

-- the path to the end goes to the last child, and on if that is an element
path_out : (c : ElemChildren) → last_path c ≡ before_path (last c) (option_map last_path (children_of (child_at c (last c))))
path_out c = fold_out-ElemChildren (Option (List ℕ)) (List ℕ) (List ℕ) child_path elem_path children_path c ∙ pathed c.0.items

-- the walk goes on in the last child, if that is an element
next_before : (i : ℕ) (o : Option ElemChildren) → first_of (before_path i (option_map last_path o)) ≡ option_map (λ d. i) o
next_before i None = refl
next_before i (Some d) = refl

next_is : (c : ElemChildren) → first_of (last_path c) ≡ option_map (λ d. last c) (children_of (child_at c (last c)))
next_is c = ap first_of (path_out c) ∙ next_before (last c) (children_of (child_at c (last c)))

index_of : (i : ℕ) (o : Option ElemChildren) → is_some (option_map (λ d. i) o) ≡ true → unwrap_or (option_map (λ d. i) o) 0 ≡ i
index_of i None h = cc
index_of i (Some d) h = refl

some_of : (i : ℕ) (o : Option ElemChildren) → is_some (option_map (λ d. i) o) ≡ is_some o
some_of i None = refl
some_of i (Some d) = refl

index_is : (c : ElemChildren) → has_next End c ≡ true → index_towards End c ≡ last c
index_is c on = ap (λ o. unwrap_or o 0) (next_is c) ∙ index_of (last c) (children_of (child_at c (last c))) (sym (ap is_some (next_is c)) ∙ on)

pub has_children : (c : ElemChildren) (x : ElemChild) → x ≡ child_at c (index_towards End c) → has_next End c ≡ true → is_some (children_of x) ≡ true
has_children c x is on = ap (λ k. is_some (children_of k)) (is ∙ ap (child_at c) (index_is c on)) ∙ sym (some_of (last c) (children_of (child_at c (last c)))) ∙ sym (ap is_some (next_is c)) ∙ on

pub further : (c d : ElemChildren) (x : ElemChild) → x ≡ child_at c (index_towards End c) → Some d ≡ children_of x → has_next End c ≡ true → last_path c ≡ index_towards End c ∷ last_path d
further c d x is has on =
    let at : x ≡ child_at c (last c) = is ∙ ap (child_at c) (index_is c on) in
    path_out c
    ∙ ap (λ k. before_path (last c) (option_map last_path (children_of k))) (sym at)
    ∙ ap (λ o. before_path (last c) (option_map last_path o)) (sym has)
    ∙ ap (λ i. i ∷ last_path d) (sym (index_is c on))

-- the last text of children is that of the last child
last_at : (ks : List ElemChild) → last_of (map last_text_of ks) ≡ layer_last (out-ElemChild (slice_index_or ks (length ks - 1) no_child))
last_at [] = sym (ap layer_last (outs-Transparent _ _))
last_at (k ∷ []) = last_child_out k
last_at (k ∷ j ∷ ks) = last_at (j ∷ ks) ∙ ap (λ y. layer_last (out-ElemChild y)) (one_more (j ∷ ks) (length ks) refl)
  where
    one_more : (js : List ElemChild) (n : ℕ) → length js ≡ suc n → slice_index_or js (length js - 1) no_child ≡ slice_index_or (k ∷ js) (length (k ∷ js) - 1) no_child
    one_more js n h =
        let before : length js - 1 ≡ n = omega (arith, h) in
        let last : length (k ∷ js) - 1 ≡ suc n = omega (arith, h) in
        ap (λ m. slice_index_or js m no_child) before ∙ sym (ap (λ m. slice_index_or (k ∷ js) m no_child) last)

last_here : (c : ElemChildren) → last_text c ≡ layer_last (out-ElemChild (child_at c (last c)))
last_here c = last_out c ∙ last_at c.0.items

abbrev pub final : ElemChildren → ElemChild
final c = child_at (get_at (last_path c) c) (last (get_at (last_path c) c))

abbrev ends : List ℕ → ElemChildren → Option Formatted
ends p c = text_of_child (child_at (get_at p c) (last (get_at p c)))

abbrev tail : List ℕ → List ℕ
tail [] = []
tail (i ∷ p) = p

abbrev head : ℕ → List ℕ → ℕ
head d [] = d
head d (i ∷ p) = i

mutual_text : (p : List ℕ) (c : ElemChildren) (x : ElemChild-F ElemChild elem.Elem ElemChildren) → out-ElemChild (child_at c (last c)) ≡ x → before_path (last c) (option_map last_path (layer_children x)) ≡ p → ends p c ≡ layer_last x
mutual_text [] c (Text t) e h = ap layer_text e
mutual_text [] c (Elem a) e h = let f = ap length h in absurd (omega (arith, f))
mutual_text [] c (Markup s) e h = ap layer_text e
mutual_text [] c (Link t u) e h = ap layer_text e
mutual_text [] c (Transparent n f) e h = ap layer_text e
mutual_text (i ∷ p) c (Text t) e h = let f = ap length h in absurd (omega (arith, f))
mutual_text (i ∷ p) c (Elem a) e h =
    let at : last c ≡ i = ap (head 0) h in
    let rest : last_path a.children ≡ p = ap tail h in
    let inner : unwrap_or (children_of (child_at c i)) c ≡ a.children = ap (λ m. unwrap_or (children_of (child_at c m)) c) (sym at) ∙ ap (λ y. unwrap_or (layer_children y) c) e in
    ap (ends p) inner
    ∙ mutual_text p a.children (out-ElemChild (child_at a.children (last a.children))) refl (sym (path_out a.children) ∙ rest)
    ∙ sym (last_here a.children)
mutual_text (i ∷ p) c (Markup s) e h = let f = ap length h in absurd (omega (arith, f))
mutual_text (i ∷ p) c (Link t u) e h = let f = ap length h in absurd (omega (arith, f))
mutual_text (i ∷ p) c (Transparent n f) e h = let g = ap length h in absurd (omega (arith, g))

pub text_at_end : (c : ElemChildren) → text_of_child (final c) ≡ last_text c
text_at_end c = mutual_text (last_path c) c (out-ElemChild (child_at c (last c))) refl (sym (path_out c)) ∙ sym (last_here c)

module _ (s : ElemChildren) (v : Vec ElemChild Global) (is : v ≡ items_towards End s) (n : ℕ) (end : n ≡ length v.items - 1) where
  end_is : n ≡ last (get_at (last_path s) s)
  end_is = end ∙ ap (λ u. length u.items - 1) is

  abbrev text_in : Formatted → Vec ElemChild Global → ℕ → ElemChildren
  text_in t u i = put_items_towards End s (with_item u i (variants.Text t))

  pub insert_text : (t : Formatted) → put_items_towards End s (with_item v n (variants.Text t)) ≡ put_last_text s t
  insert_text t = ap (λ u. text_in t u n) is ∙ ap (text_in t (items_towards End s)) end_is

  pub final_is : (k : ElemChild) → n < length v.items → k ≡ slice_index_or v.items n k → k ≡ final s
  final_is k h e = at_index v.items n n no_child refl h e ∙ ap (λ u. slice_index_or u.items n no_child) is ∙ ap (child_at (get_at (last_path s) s)) end_is

no_text : text_of_child no_child ≡ None
no_text = ap layer_text (outs-Transparent _ _)

some_text : (xs : List ElemChild) → is_some (text_of_child (slice_index_or xs (length xs - 1) no_child)) ≡ true → 0 < length xs
some_text [] h = let n = no_text in cc
some_text (x ∷ xs) h = omega arith

-- if the tree has a last text, there is a child at its end
pub has_final : (s : ElemChildren) (v : Vec ElemChild Global) → v ≡ items_towards End s → is_some (last_text s) ≡ true → 0 < length v.items
has_final s v is h = some_text v.items (ap (λ u. is_some (text_of_child (slice_index_or u.items (length u.items - 1) no_child))) is ∙ ap is_some (text_at_end s) ∙ h)
