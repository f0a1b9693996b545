-- A tree without its first element that has a meta.
use Rattle.std.proofs.Common.{◌≡◌, ℕ, ◌+◌, ◌<◌, suc, zero, arith, true, false, ◌||◌, List, [], ◌∷◌, ◌++◌, Option, Some, None, length, get_or, set, take, drop, refl, sym, ap, ◌∙◌, subst, append_assoc, add-one, drop-cons}
use Rattle.std.specs.Prelude.{Vec, option_map, option_copied, is_some, is_none, unwrap_or, IfSome, IfNone}
use Rattle.std.specs.Borrow.{Bor}
use Rattle.std.specs.List.{flat_map, list_any, remove, find}
use Rattle.std.specs.Option.{option_or}
use Rattle.std.specs.Vec.{with_item}
use Rattle.std.specs.declared.alloc.Global.{Global}
use Rattle.std.proofs.lemmas.Grind.{flat_map-append}
use Rattle.std.proofs.lemmas.List.{take-append-drop, set_split, set-get_or, take_more, append-nil}
use Rattle.std.proofs.lemmas.List.Folds.{list_any-append}
use Rattle.std.proofs.lemmas.Bool.{false≢true}
use mathlib.Core.HLevel.{is_prop→PathP}
use native.Mathlib.Nat.{ℕ_set}
use Rattle.csl_elements.specs.declared.formatting.Display.{Display}
use Rattle.csl_tree.specs.Tokens.{Token, solid, elem_start, elem_end, elem_around, optional_meta, child_step, elem_step, children_step, child_tokens, elem_tokens, tokens}
use Rattle.csl_tree.specs.Places.{layer_children, children_of, layer_with, with_children}
use Rattle.csl_tree.specs.Search.{preorder, child_preorder, has_meta, child_has_meta, layer_has_meta, elem_of, layer_elem, opens_meta, HasNoMeta, MetaRemoved}
use Rattle.csl_tree.specs.declared.elem.ElemMeta.{ElemMeta}
use Rattle.csl_tree.specs.declared.elem.ElemChild.{ElemChild}
use Rattle.csl_tree.specs.declared.elem.ElemChild.TheOpen.{ElemChild-F, Text, Elem, Markup, Link, Transparent}
use Rattle.csl_tree.specs.declared.elem.ElemChild.TheFolds.{map-ElemChild, fold_out-ElemChild}
use Rattle.csl_tree.specs.declared.elem.ElemChild.TheViews.{out-ElemChild, roll-ElemChild, roll-out-ElemChild, outs-Elem}
use Rattle.csl_tree.specs.declared.elem.ElemChild.TheVariants as variants
use Rattle.csl_tree.specs.declared.elem.Elem as elem
use Rattle.csl_tree.specs.declared.elem.ElemChildren.{ElemChildren}
use Rattle.csl_tree.proofs.Trees.{elem_tokens_are}
use Rattle.csl_tree.proofs.Appended.{elem_child}
use Rattle.csl_tree.proofs.Searches.{layer_preorder, child_out, find_turn}

-- a list around one item, and with another item there
pub split_at : {A B : Type 0} (f : A → List B) (xs : List A) (i : ℕ) (x : A) → i < length xs → x ≡ get_or xs i x → flat_map f xs ≡ flat_map f (take i xs) ++ (f x ++ flat_map f (drop (i + 1) xs))
split_at f xs i x h is =
    let rest : drop i xs ≡ get_or xs i x ∷ drop (i + 1) xs = rw (add-one, drop-cons xs i x) refl in
    ap (flat_map f) (sym (take-append-drop i xs)) ∙ flat_map-append f (take i xs) (drop i xs) ∙ ap (λ l. flat_map f (take i xs) ++ flat_map f l) (rest ∙ ap (λ y. y ∷ drop (i + 1) xs) (sym is))

pub split_set : {A B : Type 0} (f : A → List B) (xs : List A) (i : ℕ) (y : A) → i < length xs → flat_map f (set xs i y) ≡ flat_map f (take i xs) ++ (f y ++ flat_map f (drop (i + 1) xs))
split_set f xs i y h =
    ap (flat_map f) (set_split xs i y h) ∙ flat_map-append f (take i xs) (y ∷ drop (suc i) xs) ∙ ap (λ n. flat_map f (take i xs) ++ (f y ++ flat_map f (drop n xs))) (sym (add-one i))

-- writing an item back changes nothing
pub same_item : {A : Type 0} (v : Vec A Global) (i : ℕ) (x : A) → x ≡ get_or v.items i x → with_item v i x ≡ v
same_item v i x is =
    let e : set v.items i x ≡ v.items = ap (set v.items i) is ∙ set-get_or v.items i x in
    λ j. record { ptr = v.ptr; len = v.len; cap = v.cap; alloc = v.alloc; items = e j; ok = (is_prop→PathP (λ k. v.len ≡ length (e k)) (λ k. ℕ_set v.len (length (e k))) (with_item v i x).ok.0 v.ok.0 j, v.ok.1); small = v.small }

-- a removal from a part is a removal from the whole
pub taken_inside : (p a t b s : List Token) → HasNoMeta p → MetaRemoved a t b → MetaRemoved (p ++ (a ++ s)) t (p ++ (b ++ s))
taken_inside p a t b s none o = record {
  before = p ++ o.before;
  after = o.after ++ s;
  was = ap (λ l. p ++ (l ++ s)) o.was ∙ ap (λ l. p ++ l) (append_assoc o.before (t ++ o.after) s ∙ ap (λ l. o.before ++ l) (append_assoc t o.after s)) ∙ sym (append_assoc p o.before (t ++ (o.after ++ s)));
  is = ap (λ l. p ++ (l ++ s)) o.is ∙ ap (λ l. p ++ l) (append_assoc o.before o.after s) ∙ sym (append_assoc p o.before (o.after ++ s));
  first = list_any-append opens_meta p o.before ∙ ap (λ b. b || list_any opens_meta o.before) none ∙ o.first;
}

pub nothing_append : (a b : List Token) → HasNoMeta a → HasNoMeta b → HasNoMeta (a ++ b)
nothing_append a b g h = list_any-append opens_meta a b ∙ ap (λ x. x || list_any opens_meta b) g ∙ h

layer_here : (x : ElemChild-F ElemChild elem.Elem ElemChildren) (o : Option elem.Elem) → layer_has_meta x ≡ true → option_map variants.Elem (option_or (find has_meta (layer_preorder x)) o) ≡ Some (roll-ElemChild x)
layer_here (Text t) o h = cc
layer_here (Elem e) o h = rw h (ap Some (sym (variants.rolls-Elem e)))
layer_here (Markup s) o h = cc
layer_here (Link t u) o h = cc
layer_here (Transparent n f) o h = cc

or_found : {A B : Type 0} (f : A → B) (a b : Option A) (r : Option B) → r ≡ option_map f a → is_some r ≡ true → option_map f (option_or a b) ≡ r
or_found f None b r e h = absurd (false≢true (sym (ap is_some e) ∙ h))
or_found f (Some x) b r e h = sym e

or_none : {A B : Type 0} (f : A → B) (a b : Option A) → None ≡ option_map f a → option_or a b ≡ b
or_none f None b e = refl
or_none f (Some x) b e = cc

-- the first element with a meta among the children from a place on
module _ (ks : List ElemChild) (i : ℕ) (k : ElemChild) (h : i < length ks) (is : k ≡ get_or ks i k) where
  abbrev from : ℕ → Option elem.Elem
  from n = find has_meta (flat_map child_preorder (drop n ks))

  pub found_here : child_has_meta k ≡ true → option_map variants.Elem (from i) ≡ Some k
  found_here m = ap (option_map variants.Elem) (find_turn has_meta ks i k h is) ∙ layer_here (out-ElemChild k) (from (i + 1)) m ∙ ap Some (roll-out-ElemChild k)

  turned : from i ≡ option_or (find has_meta (child_preorder k)) (from (i + 1))
  turned = find_turn has_meta ks i k h is ∙ ap (λ l. option_or (find has_meta l) (from (i + 1))) (sym (child_out k))

  pub found_below : (r : Option ElemChild) → r ≡ option_map variants.Elem (find has_meta (child_preorder k)) → is_some r ≡ true → option_map variants.Elem (from i) ≡ r
  found_below r e s = ap (option_map variants.Elem) turned ∙ or_found variants.Elem (find has_meta (child_preorder k)) (from (i + 1)) r e s

  pub found_later : None ≡ option_map variants.Elem (find has_meta (child_preorder k)) → from i ≡ from (i + 1)
  found_later e = turned ∙ or_none variants.Elem (find has_meta (child_preorder k)) (from (i + 1)) e

  abbrev front : ℕ → List Token
  front n = flat_map child_tokens (take n ks)

  pub nothing_more : HasNoMeta (front i) → HasNoMeta (child_tokens k) → HasNoMeta (front (i + 1))
  nothing_more g n =
      let one : front (i + 1) ≡ front i ++ child_tokens k = ap (flat_map child_tokens) (take_more ks i k h) ∙ flat_map-append child_tokens (take i ks) (get_or ks i k ∷ []) ∙ ap (λ d. front i ++ (child_tokens d ++ [])) (sym is) ∙ ap (λ l. front i ++ l) (append-nil (child_tokens k)) in
      subst HasNoMeta (sym one) (nothing_append (front i) (child_tokens k) g n)

  abbrev later : List Token
  later = flat_map child_tokens (drop (i + 1) ks)

  -- the child itself is removed, or an element inside it
  pub taken_here : HasNoMeta (front i) → MetaRemoved (flat_map child_tokens ks) (child_tokens k) (flat_map child_tokens (remove ks i))
  taken_here n = record {
    before = front i;
    after = later;
    was = split_at child_tokens ks i k h is;
    is = flat_map-append child_tokens (take i ks) (drop (suc i) ks) ∙ ap (λ m. front i ++ flat_map child_tokens (drop m ks)) (sym (add-one i));
    first = n;
  }

  pub taken_below : (t : List Token) (j : ElemChild) → HasNoMeta (front i) → MetaRemoved (child_tokens k) t (child_tokens j) → MetaRemoved (flat_map child_tokens ks) t (flat_map child_tokens (set ks i j))
  taken_below t j n o =
      subst (λ (a : List Token). MetaRemoved a t (flat_map child_tokens (set ks i j))) (sym (split_at child_tokens ks i k h is))
      (subst (λ (b : List Token). MetaRemoved (front i ++ (child_tokens k ++ later)) t b) (sym (split_set child_tokens ks i j h)) (taken_inside (front i) (child_tokens k) t (child_tokens j) later n o))

pub same_at : {A : Type 0} (xs : List A) (i : ℕ) (x y : A) → i < length xs → x ≡ get_or xs i x → y ≡ get_or xs i y → x ≡ y
same_at [] i x y h p q = absurd (omega arith)
same_at (z ∷ zs) zero x y h p q = p ∙ sym q
same_at (z ∷ zs) (suc i) x y h p q = same_at zs i x y (omega arith) p q

pub moved : {a b c d : List Token} (t : List Token) → a ≡ b → c ≡ d → MetaRemoved b t d → MetaRemoved a t c
moved t p q o = record { before = o.before; after = o.after; was = p ∙ o.was; is = q ∙ o.is; first = o.first }

none_of : (m : Option ElemMeta) → is_some m ≡ false → optional_meta m ≡ None
none_of None h = refl
none_of (Some m) h = cc

module _ (e : elem.Elem) (h : has_meta e ≡ false) where
  abbrev display : Option Display
  display = (elem.out-Elem e).display

  pub below_elem : find has_meta (child_preorder (variants.Elem e)) ≡ find has_meta (preorder (elem.out-Elem e).children)
  below_elem = ap (find has_meta) (child_out (variants.Elem e) ∙ ap layer_preorder (outs-Elem e)) ∙ rw h refl

  pub opened_is : child_tokens (variants.Elem e) ≡ elem_around display None (tokens (elem.out-Elem e).children)
  opened_is = elem_child e ∙ elem_tokens_are e ∙ ap (λ m. elem_around display m (tokens (elem.out-Elem e).children)) (none_of (elem.out-Elem e).meta h)

abbrev pub children_of_vec : Vec ElemChild Global → ElemChildren
children_of_vec v = record { 0 = v }

-- a child that is no element contains no element with a meta
layer_none : (x : ElemChild-F ElemChild elem.Elem ElemChildren) → None ≡ layer_elem x → None ≡ option_map variants.Elem (find has_meta (layer_preorder x))
layer_none (Text t) h = refl
layer_none (Elem e) h = cc
layer_none (Markup s) h = refl
layer_none (Link t u) h = refl
layer_none (Transparent n f) h = refl

pub none_in : (k : ElemChild) → None ≡ elem_of k → None ≡ option_map variants.Elem (find has_meta (child_preorder k))
none_in k h = layer_none (out-ElemChild k) h ∙ sym (ap (λ l. option_map variants.Elem (find has_meta l)) (child_out k))

layer_nothing : (k : ElemChild) (x : ElemChild-F ElemChild elem.Elem ElemChildren) → None ≡ layer_elem x → HasNoMeta (child_step (map-ElemChild ElemChild elem.Elem ElemChildren (List Token) (List Token) (List Token) child_tokens elem_tokens tokens x))
layer_nothing k (Text t) h = refl
layer_nothing k (Elem e) h = cc
layer_nothing k (Markup s) h = refl
layer_nothing k (Link t u) h = refl
layer_nothing k (Transparent n f) h = refl

pub nothing_in : (k : ElemChild) → None ≡ elem_of k → HasNoMeta (child_tokens k)
nothing_in k h = subst HasNoMeta (sym (fold_out-ElemChild (List Token) (List Token) (List Token) child_step elem_step children_step k)) (layer_nothing k (out-ElemChild k) h)

layer_some : (x : ElemChild-F ElemChild elem.Elem ElemChildren) (e : elem.Elem) → Some e ≡ layer_elem x → is_some (layer_children x) ≡ true
layer_some (Text t) e h = cc
layer_some (Elem d) e h = refl
layer_some (Markup s) e h = cc
layer_some (Link t u) e h = cc
layer_some (Transparent n f) e h = cc

pub some_children : (k : ElemChild) (o : Option elem.Elem) → o ≡ elem_of k → is_none o ≡ false → is_some (children_of k) ≡ true
some_children k None e h = cc
some_children k (Some d) e h = layer_some (out-ElemChild k) d e

-- an element without a meta, and its children
module _ (k : ElemChild) (d : ElemChildren) where
  record Around (w : ElemChildren) : Type 0 where
    pub display : Option Display
    pub was : child_tokens k ≡ elem_around display None (tokens d)
    pub is : child_tokens (with_children k w) ≡ elem_around display None (tokens w)
    pub same : with_children k d ≡ k
    pub found : find has_meta (child_preorder k) ≡ find has_meta (preorder d)

  around_of : (w : ElemChildren) (x : ElemChild-F ElemChild elem.Elem ElemChildren) → out-ElemChild k ≡ x → layer_has_meta x ≡ false → Some d ≡ layer_children x → Around w
  around_of w (Text t) e h c = cc
  around_of w (Elem a) e h c =
      let rolled : variants.Elem a ≡ k = sym (variants.rolls-Elem a) ∙ ap roll-ElemChild (sym e) ∙ roll-out-ElemChild k in
      let inner : a.children ≡ d = ap (λ o. unwrap_or o d) (sym c) in
      record {
        display = a.display;
        was = ap child_tokens (sym rolled) ∙ opened_is a h ∙ ap (λ c. elem_around a.display None (tokens c)) inner;
        is = ap (λ x. child_tokens (layer_with x k w)) e ∙ opened_is (record { children = w; display = a.display; meta = a.meta }) h;
        same = ap (λ x. layer_with x k d) e ∙ ap (λ c. variants.Elem (record { children = c; display = a.display; meta = a.meta })) (sym inner) ∙ rolled;
        found = ap (λ k. find has_meta (child_preorder k)) (sym rolled) ∙ below_elem a h ∙ ap (λ c. find has_meta (preorder c)) inner;
      }
  around_of w (Markup s) e h c = cc
  around_of w (Link t u) e h c = cc
  around_of w (Transparent n f) e h c = cc

  module _ (h : child_has_meta k ≡ false) (c : Some d ≡ children_of k) where
    around_is : (w : ElemChildren) → Around w
    around_is w = around_of w (out-ElemChild k) refl h c

    pub found_inside : find has_meta (child_preorder k) ≡ find has_meta (preorder d)
    found_inside = (around_is d).found

    pub taken_in : (t : List Token) (w : ElemChildren) → MetaRemoved (tokens d) t (tokens w) → MetaRemoved (child_tokens k) t (child_tokens (with_children k w))
    taken_in t w o =
        let a = around_is w in
        moved t a.was a.is (taken_inside (solid (elem_start a.display None) ∷ []) (tokens d) t (tokens w) (solid (elem_end a.display) ∷ []) refl o)

    pub nothing_inside : HasNoMeta (tokens d) → HasNoMeta (child_tokens k)
    nothing_inside n = let a = around_is d in subst HasNoMeta (sym a.was) (nothing_append (tokens d) (solid (elem_end a.display) ∷ []) n refl)

    pub same_inside : (w : ElemChildren) → w ≡ d → with_children k w ≡ k
    same_inside w e = ap (with_children k) e ∙ (around_is d).same

pub none_elem : (o : Option (Bor elem.Elem)) (k : ElemChild) → option_copied o ≡ elem_of k → is_some o ≡ false → None ≡ elem_of k
none_elem None k e h = e
none_elem (Some b) k e h = cc

pub if_some : {A : Type 0} {P Q : A → Type 0} (o : Option A) → ((x : A) → P x → Q x) → IfSome o P → IfSome o Q
if_some None f h = h
if_some (Some x) f h = f x h

pub if_none : {A P Q : Type 0} (o : Option A) → (P → Q) → IfNone o P → IfNone o Q
if_none None f h = f h
if_none (Some x) f h = h
