-- The preorder of a tree, and the first element in it that passes a test.
use Rattle.std.proofs.Common.{◌≡◌, ℕ, ◌+◌, ◌<◌, Bool, true, false, List, [], ◌∷◌, Option, Some, None, length, get_or, drop, map, refl, sym, ap, ◌∙◌, add-one, drop-cons, inl, inr, suc, arith}
use Rattle.std.specs.List.{find}
use Rattle.std.specs.Prelude.{flat_map, ◌-◌, slice_get}
use Rattle.std.specs.Option.{option_or}
use Rattle.std.specs.Bool.{Decides}
use Rattle.std.proofs.lemmas.Bool.{false≢true}
use Rattle.std.proofs.lemmas.List.Folds.{flat_map-map, find-append}
use Rattle.csl_tree.specs.Search.{Walk, child_walk, elem_walk, children_walk, preorder, child_preorder, IsFirst, layer_elem, elem_of, last_of, child_last, elem_last, children_last, last_text, last_text_of}
use Rattle.csl_tree.specs.declared.formatting.Formatted.{Formatted}
use Rattle.csl_tree.specs.declared.elem.ElemChild.{ElemChild}
use Rattle.csl_tree.specs.declared.elem.ElemChild.TheOpen.{ElemChild-F, Text, Elem, Markup, Link, Transparent}
use Rattle.csl_tree.specs.declared.elem.ElemChild.TheViews.{out-ElemChild, roll-ElemChild, roll-out-ElemChild, out-Elem, roll-out-Elem, out-ElemChildren, roll-out-ElemChildren}
use Rattle.csl_tree.specs.declared.elem.ElemChild.TheFolds.{map-ElemChild, fold-Elem, fold_out-ElemChild, fold_out-Elem, fold_out-ElemChildren, para-Elem, para-roll-ElemChild, para-roll-Elem, para-roll-ElemChildren}
use Rattle.csl_tree.specs.declared.elem.Elem as elem
use Rattle.csl_tree.specs.declared.elem.ElemChildren.{ElemChildren}

-- the preorder of children is that of each, in order
pub preorder_out : (c : ElemChildren) → preorder c ≡ flat_map child_preorder c.0.items
preorder_out c =
    ap preorder (sym (roll-out-ElemChildren c)) ∙ para-roll-ElemChildren Walk Walk Walk child_walk elem_walk children_walk (out-ElemChildren c)
    ∙ flat_map-map (λ k. k.1) (λ y. (y, child_preorder y)) c.0.items

abbrev inside : elem.Elem → List elem.Elem
inside = para-Elem Walk Walk Walk child_walk elem_walk children_walk

inside_out : (e : elem.Elem) → inside e ≡ preorder (elem.out-Elem e).children
inside_out e = ap inside (sym (roll-out-Elem e)) ∙ para-roll-Elem Walk Walk Walk child_walk elem_walk children_walk (out-Elem e)

abbrev pub layer_preorder : ElemChild-F ElemChild elem.Elem ElemChildren → List elem.Elem
layer_preorder (Text t) = []
layer_preorder (Elem e) = e ∷ preorder (elem.out-Elem e).children
layer_preorder (Markup s) = []
layer_preorder (Link t u) = []
layer_preorder (Transparent n f) = []

layer_rolled : (x : ElemChild-F ElemChild elem.Elem ElemChildren) → child_preorder (roll-ElemChild x) ≡ layer_preorder x
layer_rolled (Text t) = para-roll-ElemChild Walk Walk Walk child_walk elem_walk children_walk (Text t)
layer_rolled (Elem e) = para-roll-ElemChild Walk Walk Walk child_walk elem_walk children_walk (Elem e) ∙ ap (λ l. e ∷ l) (inside_out e)
layer_rolled (Markup s) = para-roll-ElemChild Walk Walk Walk child_walk elem_walk children_walk (Markup s)
layer_rolled (Link t u) = para-roll-ElemChild Walk Walk Walk child_walk elem_walk children_walk (Link t u)
layer_rolled (Transparent n f) = para-roll-ElemChild Walk Walk Walk child_walk elem_walk children_walk (Transparent n f)

-- the preorder of a child: an element is before the elements inside it
pub child_out : (k : ElemChild) → child_preorder k ≡ layer_preorder (out-ElemChild k)
child_out k = ap child_preorder (sym (roll-out-ElemChild k)) ∙ layer_rolled (out-ElemChild k)

option_or_assoc : {X : Type 0} (a b c : Option X) → option_or a (option_or b c) ≡ option_or (option_or a b) c
option_or_assoc None b c = refl
option_or_assoc (Some x) b c = refl

elem_layer : (x : ElemChild-F ElemChild elem.Elem ElemChildren) (e : elem.Elem) → Some e ≡ layer_elem x → layer_preorder x ≡ e ∷ preorder (elem.out-Elem e).children
elem_layer (Text t) e h = cc
elem_layer (Elem d) e h = cc
elem_layer (Markup s) e h = cc
elem_layer (Link t u) e h = cc
elem_layer (Transparent n f) e h = cc

other_layer : (x : ElemChild-F ElemChild elem.Elem ElemChildren) → None ≡ layer_elem x → layer_preorder x ≡ []
other_layer (Text t) h = refl
other_layer (Elem d) h = cc
other_layer (Markup s) h = refl
other_layer (Link t u) h = refl
other_layer (Transparent n f) h = refl

module _ (p : elem.Elem → Bool) where
  abbrev turn : List elem.Elem → List ElemChild → Option elem.Elem
  turn here later = option_or (find p here) (find p (flat_map child_preorder later))

  -- the first one in a child, else in those after it
  pub find_turn : (ks : List ElemChild) (i : ℕ) (k : ElemChild) → i < length ks → k ≡ get_or ks i k → find p (flat_map child_preorder (drop i ks)) ≡ turn (layer_preorder (out-ElemChild k)) (drop (i + 1) ks)
  find_turn ks i k h is =
      let one : find p (flat_map child_preorder (drop i ks)) ≡ turn (child_preorder (get_or ks i k)) (drop (i + 1) ks) = rw (add-one, drop-cons ks i k) (find-append p (child_preorder (get_or ks i k)) _) in
      one ∙ ap (λ d. turn (child_preorder d) (drop (i + 1) ks)) (sym is) ∙ ap (λ l. turn l (drop (i + 1) ks)) (child_out k)

  -- a child that is an element, and one that is not
  pub elem_turn : (ks : List ElemChild) (i : ℕ) (k : ElemChild) (e : elem.Elem) → i < length ks → k ≡ get_or ks i k → Some e ≡ elem_of k → find p (flat_map child_preorder (drop i ks)) ≡ turn (e ∷ preorder (elem.out-Elem e).children) (drop (i + 1) ks)
  elem_turn ks i k e h is one = find_turn ks i k h is ∙ ap (λ l. turn l (drop (i + 1) ks)) (elem_layer (out-ElemChild k) e one)

  pub other_turn : (ks : List ElemChild) (i : ℕ) (k : ElemChild) → i < length ks → k ≡ get_or ks i k → None ≡ elem_of k → find p (flat_map child_preorder (drop i ks)) ≡ find p (flat_map child_preorder (drop (i + 1) ks))
  other_turn ks i k h is none = find_turn ks i k h is ∙ ap (λ l. turn l (drop (i + 1) ks)) (other_layer (out-ElemChild k) none)

-- the first item that passes a test is the first one with the property that the test decides
module _ {A : Type 0} (p : A → Bool) (P : A → Type 0) (d : (x : A) → Decides (p x) (P x)) where
  is_first_or : (x : A) (xs : List A) (b : Bool) → p x ≡ b → IsFirst P xs (find p xs) → IsFirst P (x ∷ xs) (find p (x ∷ xs))
  is_first_or x xs true e h = rw e (inl ((d x).0 e, refl))
  is_first_or x xs false e h = rw e (inr (λ y. absurd (false≢true (sym e ∙ (d x).1 y)), h))

  pub is_first : (xs : List A) → IsFirst P xs (find p xs)
  is_first [] = refl {A = Option A} {a = None}
  is_first (x ∷ xs) = is_first_or x xs (p x) refl (is_first xs)

abbrev pub layer_last : ElemChild-F ElemChild elem.Elem ElemChildren → Option Formatted
layer_last (Text t) = Some t
layer_last (Elem e) = last_text (elem.out-Elem e).children
layer_last (Markup s) = None
layer_last (Link t u) = None
layer_last (Transparent n f) = None

abbrev last_steps : Type 0
last_steps = Option Formatted

layer_last_is : (x : ElemChild-F ElemChild elem.Elem ElemChildren) → child_last (map-ElemChild ElemChild elem.Elem ElemChildren last_steps last_steps last_steps last_text_of (fold-Elem last_steps last_steps last_steps child_last elem_last children_last) last_text x) ≡ layer_last x
layer_last_is (Text t) = refl
layer_last_is (Elem e) = fold_out-Elem last_steps last_steps last_steps child_last elem_last children_last e
layer_last_is (Markup s) = refl
layer_last_is (Link t u) = refl
layer_last_is (Transparent n f) = refl

pub last_child_out : (k : ElemChild) → last_text_of k ≡ layer_last (out-ElemChild k)
last_child_out k = fold_out-ElemChild last_steps last_steps last_steps child_last elem_last children_last k ∙ layer_last_is (out-ElemChild k)

pub last_out : (c : ElemChildren) → last_text c ≡ last_of (map last_text_of c.0.items)
last_out c = fold_out-ElemChildren last_steps last_steps last_steps child_last elem_last children_last c

-- the last text of the last child, if there is one
abbrev pub last_in : Option ElemChild → Option Formatted
last_in None = None
last_in (Some k) = layer_last (out-ElemChild k)

last_at : (ks : List ElemChild) → last_of (map last_text_of ks) ≡ last_in (slice_get ks (length ks - 1))
last_at [] = refl
last_at (k ∷ []) = last_child_out k
last_at (k ∷ j ∷ ks) = last_at (j ∷ ks) ∙ ap last_in (further (j ∷ ks) (length ks) refl)
  where
    further : (js : List ElemChild) (n : ℕ) → length js ≡ suc n → slice_get js (length js - 1) ≡ slice_get (k ∷ js) (length (k ∷ js) - 1)
    further js n h =
        let before : length js - 1 ≡ n = omega (arith, h) in
        let last : length (k ∷ js) - 1 ≡ suc n = omega (arith, h) in
        ap (slice_get js) before ∙ sym (ap (slice_get (k ∷ js)) last)

-- the last text of a tree is that of its last child
pub last_is : (c : ElemChildren) (ks : List ElemChild) (o : Option ElemChild) → ks ≡ c.0.items → o ≡ slice_get ks (length ks - 1) → last_text c ≡ last_in o
last_is c ks o h is = last_out c ∙ ap (λ l. last_of (map last_text_of l)) (sym h) ∙ last_at ks ∙ ap last_in (sym is)

pub last_with : (c : ElemChildren) (ks : List ElemChild) (k : ElemChild) (x : ElemChild-F ElemChild elem.Elem ElemChildren) → ks ≡ c.0.items → Some k ≡ slice_get ks (length ks - 1) → out-ElemChild k ≡ x → last_text c ≡ layer_last x
last_with c ks k x h is out = last_is c ks (Some k) h is ∙ ap layer_last out
