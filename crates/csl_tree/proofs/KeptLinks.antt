-- Trees in which links to addresses that are not allowed have become texts.
use Rattle.std.proofs.Common.{◌≡◌, ◌<◌, ◌≤◌, ◌+◌, ℕ, suc, Bool, true, false, cond, List, [], ◌∷◌, ◌++◌, length, take, drop, get_or, set, length-append, add-one, Bor, String, Global, refl, sym, ap, subst, ◌∙◌}
use Rattle.std.specs.Prelude.{Option, Some, unwrap_or, if◌then◌else◌}
use Rattle.std.specs.Fn.{Mut, CalledAt, ComputesKey}
use Rattle.std.specs.List.{flat_map, list_all}
use Rattle.std.specs.List.Retain.{IsFiltered}
use Rattle.std.proofs.lemmas.Grind.{flat_map-append}
use Rattle.std.proofs.Math.Seq.{drop-cons, take-suc}
use Rattle.std.specs.Vec.{with_items}
use Rattle.std.proofs.lemmas.List.{append-nil, take_all, drop_all, with_items_is}
use Rattle.csl_elements.specs.declared.formatting.Display.{Display}
use Rattle.csl_tree.specs.declared.formatting.Formatted.{Formatted}
use Rattle.csl_tree.specs.declared.formatting.Formatting.{Formatting}
use Rattle.csl_tree.specs.declared.elem.ElemChild.{ElemChild}
use Rattle.csl_tree.specs.declared.elem.ElemChild.TheOpen.{ElemChild-F, Text, Elem, Markup, Link, Transparent}
use Rattle.csl_tree.specs.declared.elem.ElemChild.TheViews.{out-ElemChild, roll-ElemChild, roll-out-ElemChild}
use Rattle.csl_tree.specs.declared.elem.ElemChild.TheVariants as variants
use Rattle.csl_tree.specs.declared.elem.Elem as elem
use Rattle.csl_tree.specs.declared.elem.ElemChildren.{ElemChildren}
use Rattle.csl_tree.specs.Links.{layer_unlinked, child_without_link, kept_link, kept_links, link_address, addresses, KeepsToken, KeepsInTurn}
use Rattle.csl_tree.specs.Places.{layer_children, children_of, layer_with, with_children}
use Rattle.csl_tree.specs.Tokens.{Token, Meta, text, solid, markup, link, transparent, elem_start, elem_end, elem_around, optional_meta, child_tokens}
use Rattle.csl_tree.specs.Tokens as tree
use Rattle.csl_tree.proofs.Appended.{elem_child}
use Rattle.csl_tree.proofs.Trees.{elem_tokens_are, tokens_out}

-- what is kept of two lists, the second by the closure as the first leaves it
pub kept-append : {F : Type 0} (called : F → List ℕ → Bool → F → Type 0) (f g h : F) (a x b y : List Token) → KeepsInTurn called f a x g → KeepsInTurn called g b y h → KeepsInTurn called f (a ++ b) (x ++ y) h
kept-append {F} called f g h [] x b y k l =
    subst (λ (ts : List Token). KeepsInTurn called f b (ts ++ y) h) (sym k.0) (subst (λ (p : F). KeepsInTurn called p b y h) k.1 l)
kept-append called f g h (t ∷ a) x b y k l = (k.0, k.1, k.2, k.3 ++ y, kept-append called k.1 g h a k.3 b y k.4 l, ap (λ ts. ts ++ y) k.5)

pub unlinked_other : (k : ElemChild) → ((t : Formatted) (u : String Global) → k ≡ variants.Link t u → ⊥) → k ≡ child_without_link k
unlinked_other k h = by_layer (out-ElemChild k) refl
  where
    by_layer : (x : ElemChild-F ElemChild elem.Elem ElemChildren) → out-ElemChild k ≡ x → k ≡ layer_unlinked x k
    by_layer (Text t) e = refl
    by_layer (Elem a) e = refl
    by_layer (Markup s) e = refl
    by_layer (Link t u) e = absurd (h t u (sym (roll-out-ElemChild k) ∙ ap roll-ElemChild e ∙ variants.rolls-Link t u))
    by_layer (Transparent n f) e = refl

-- ---- a child that is an element

record Around (k : ElemChild) (d w : ElemChildren) : Type 0 where
  pub display : Option Display
  pub meta : Option Meta
  pub was : child_tokens k ≡ elem_around display meta (tree.tokens d)
  pub is : child_tokens (with_children k w) ≡ elem_around display meta (tree.tokens w)

elem_is : (a : elem.Elem) → child_tokens (variants.Elem a) ≡ elem_around (elem.out-Elem a).display (optional_meta (elem.out-Elem a).meta) (tree.tokens (elem.out-Elem a).children)
elem_is a = elem_child a ∙ elem_tokens_are a

around_of : (k : ElemChild) (d w : ElemChildren) (x : ElemChild-F ElemChild elem.Elem ElemChildren) → out-ElemChild k ≡ x → Some d ≡ layer_children x → Around k d w
around_of k d w (Text t) e c = cc
around_of k d w (Elem a) e c =
    let rolled : variants.Elem a ≡ k = sym (variants.rolls-Elem a) ∙ ap roll-ElemChild (sym e) ∙ roll-out-ElemChild k in
    let inner : a.children ≡ d = ap (λ o. unwrap_or o d) (sym c) in
    record {
      display = a.display;
      meta = optional_meta a.meta;
      was = ap child_tokens (sym rolled) ∙ elem_is a ∙ ap (λ c. elem_around a.display (optional_meta a.meta) (tree.tokens c)) inner;
      is = ap (λ x. child_tokens (layer_with x k w)) e ∙ elem_is (record { children = w; display = a.display; meta = a.meta });
    }
around_of k d w (Markup s) e c = cc
around_of k d w (Link t u) e c = cc
around_of k d w (Transparent n f) e c = cc

-- an element keeps the links that its children keep
pub kept_inside : {F : Type 0} (called : F → List ℕ → Bool → F → Type 0) (f g : F) (k : ElemChild) (d w : ElemChildren) → Some d ≡ children_of k → KeepsInTurn called f (tree.tokens d) (tree.tokens w) g → KeepsInTurn called f (child_tokens k) (child_tokens (with_children k w)) g
kept_inside {F} called f g k d w c h =
    let a = around_of k d w (out-ElemChild k) refl c in
    let end = solid (elem_end a.display) in
    let closed : KeepsInTurn called g (end ∷ []) (end ∷ []) g = (end, g, (refl, refl), [], (refl, refl), refl) in
    subst (λ (ts : List Token). KeepsInTurn called f ts (child_tokens (with_children k w)) g) (sym a.was)
    (subst (λ (ts : List Token). KeepsInTurn called f (elem_around a.display a.meta (tree.tokens d)) ts g) (sym a.is)
    (solid (elem_start a.display a.meta), f, (refl, refl), tree.tokens w ++ end ∷ [], kept-append called f g g (tree.tokens d) (tree.tokens w) (end ∷ []) (end ∷ []) h closed, refl))

-- ---- children, visited up to one of them

-- the children in the loop: the first `i` are visited, the others unchanged
pub record Visited {F : Type 0} (called : F → List ℕ → Bool → F → Type 0) (f : F) (xs ys : List ElemChild) (i : ℕ) (g : F) : Type 0 where
  pub done : List ElemChild
  pub count : length done ≡ i
  pub items : ys ≡ done ++ drop i xs
  pub kept : KeepsInTurn called f (flat_map child_tokens (take i xs)) (flat_map child_tokens done) g

pub none_visited : {F : Type 0} (called : F → List ℕ → Bool → F → Type 0) (f : F) (xs : List ElemChild) → Visited called f xs xs 0 f
none_visited called f xs = record { done = []; count = refl; items = refl; kept = (refl, refl) }

set_next : {A : Type 0} (done rest : List A) (x new : A) → set (done ++ (x ∷ rest)) (length done) new ≡ (done ++ (new ∷ [])) ++ rest
set_next [] rest x new = refl
set_next (d ∷ done) rest x new = ap (λ l. d ∷ l) (set_next done rest x new)

get_next : {A : Type 0} (done rest : List A) (x d : A) → get_or (done ++ (x ∷ rest)) (length done) d ≡ x
get_next [] rest x d = refl
get_next (y ∷ done) rest x d = get_next done rest x d

-- the tokens of a list of children and of one more
more_tokens : (ks : List ElemChild) (k : ElemChild) → flat_map child_tokens (ks ++ (k ∷ [])) ≡ flat_map child_tokens ks ++ child_tokens k
more_tokens ks k = flat_map-append child_tokens ks (k ∷ []) ∙ ap (λ l. flat_map child_tokens ks ++ l) (append-nil (child_tokens k))

pub one_visited : {F : Type 0} (called : F → List ℕ → Bool → F → Type 0) (f g h : F) (xs ys : List ElemChild) (i : ℕ) (x new : ElemChild) → Visited called f xs ys i g → i < length xs → x ≡ get_or ys i x
    → KeepsInTurn called g (child_tokens x) (child_tokens new) h
    → Visited called f xs (set ys i new) (i + 1) h
one_visited called f g h xs ys i x new v l is kept =
    let here = get_or xs i x in
    let next : drop i xs ≡ here ∷ drop (suc i) xs = drop-cons xs i x l in
    let items : ys ≡ v.done ++ (here ∷ drop (suc i) xs) = v.items ∙ ap (λ l. v.done ++ l) next in
    let same : x ≡ here = is ∙ (λ j. get_or (items j) (sym v.count j) x) ∙ get_next v.done (drop (suc i) xs) here x in
    let more : take (suc i) xs ≡ take i xs ++ (x ∷ []) = take-suc xs i x l ∙ ap (λ k. take i xs ++ (k ∷ [])) (sym same) in
    let old : flat_map child_tokens (take (suc i) xs) ≡ flat_map child_tokens (take i xs) ++ child_tokens x = ap (flat_map child_tokens) more ∙ more_tokens (take i xs) x in
    record {
      done = v.done ++ (new ∷ []);
      count = length-append v.done (new ∷ []) ∙ ap (λ n. n + 1) v.count;
      items = (λ j. set (items j) (sym v.count j) new) ∙ set_next v.done (drop (suc i) xs) here new ∙ ap (λ n. (v.done ++ (new ∷ [])) ++ drop n xs) (sym (add-one i));
      kept =
          subst (λ n. KeepsInTurn called f (flat_map child_tokens (take n xs)) (flat_map child_tokens (v.done ++ (new ∷ []))) h) (sym (add-one i))
          (subst (λ (ts : List Token). KeepsInTurn called f ts (flat_map child_tokens (v.done ++ (new ∷ []))) h) (sym old)
          (subst (λ (ts : List Token). KeepsInTurn called f (flat_map child_tokens (take i xs) ++ child_tokens x) ts h) (sym (more_tokens v.done new))
          (kept-append called f g h (flat_map child_tokens (take i xs)) (flat_map child_tokens v.done) (child_tokens x) (child_tokens new) v.kept kept)));
    }

-- all children are visited
pub all_visited : {F : Type 0} (called : F → List ℕ → Bool → F → Type 0) (f g : F) (c : ElemChildren) (xs ys : List ElemChild) (i : ℕ) → xs ≡ c.0.items → Visited called f xs ys i g → length xs ≤ i → length ys ≡ c.0.len
    → KeepsInTurn called f (tree.tokens c) (tree.tokens (record { 0 = with_items c.0 ys })) g
all_visited called f g c xs ys i is v l as_long =
    let after : ElemChildren = record { 0 = with_items c.0 ys } in
    let old : flat_map child_tokens (take i xs) ≡ tree.tokens c = ap (flat_map child_tokens) (take_all i xs l ∙ is) ∙ sym (tokens_out c) in
    let new : tree.tokens after ≡ flat_map child_tokens v.done =
    tokens_out after ∙ ap (flat_map child_tokens) (with_items_is c.0 ys as_long ∙ v.items ∙ ap (λ l. v.done ++ l) (drop_all i xs l) ∙ append-nil v.done) in
    subst (λ (ts : List Token). KeepsInTurn called f ts (tree.tokens after) g) old
    (subst (λ (ts : List Token). KeepsInTurn called f (flat_map child_tokens (take i xs)) ts g) (sym new) v.kept)

-- ---- what is kept of a list of tokens

module _ {F : Type 0} (called : F → List ℕ → Bool → F → Type 0) where
  -- the addresses after those of one more token
  abbrev Filtered : F → Token → Token → List Token → List Token → Type 0
  Filtered f t u ts us = IsFiltered called f (link_address t ++ addresses ts) (link_address u ++ addresses us)

  filtered_other : (f h : F) (t u : Token) (ts us : List Token) → (u ≡ t) × (h ≡ f) → link_address t ≡ [] → IsFiltered called h (addresses ts) (addresses us) → Filtered f t u ts us
  filtered_other f h t u ts us k none rest =
      let was : addresses ts ≡ link_address t ++ addresses ts = ap (λ l. l ++ addresses ts) (sym none) in
      let is : addresses us ≡ link_address u ++ addresses us = ap (λ l. l ++ addresses us) (sym (ap link_address k.0 ∙ none)) in
      subst (λ (p : F). IsFiltered called p (link_address t ++ addresses ts) (link_address u ++ addresses us)) k.1
      (subst (λ (l : List (List ℕ)). IsFiltered called h l (link_address u ++ addresses us)) was (subst (λ (l : List (List ℕ)). IsFiltered called h (addresses ts) l) is rest))

  filtered_link : (f h : F) (bs : List ℕ) (s : Formatting) (url : List ℕ) (u : Token) (ts us : List Token) (keep : Bool) → called f url keep h → u ≡ (if keep then solid (link bs s url) else text bs s) → IsFiltered called h (addresses ts) (addresses us) → Filtered f (solid (link bs s url)) u ts us
  filtered_link f h bs s url u ts us true call is rest =
      (true ∷ rest.0, rest.1, ap suc rest.2, (h, call, rest.3), ap (λ v. link_address v ++ addresses us) is ∙ ap (λ l. url ∷ l) rest.4)
  filtered_link f h bs s url u ts us false call is rest =
      (false ∷ rest.0, rest.1, ap suc rest.2, (h, call, rest.3), ap (λ v. link_address v ++ addresses us) is ∙ rest.4)

  filtered_token : (f h : F) (t u : Token) (ts us : List Token) → KeepsToken called f t u h → IsFiltered called h (addresses ts) (addresses us) → Filtered f t u ts us
  filtered_token f h (text bs s) u ts us k rest = filtered_other f h (text bs s) u ts us k refl rest
  filtered_token f h (solid (markup bs)) u ts us k rest = filtered_other f h (solid (markup bs)) u ts us k refl rest
  filtered_token f h (solid (link bs s url)) u ts us k rest = filtered_link f h bs s url u ts us k.0 k.1 k.2 rest
  filtered_token f h (solid (transparent n s)) u ts us k rest = filtered_other f h (solid (transparent n s)) u ts us k refl rest
  filtered_token f h (solid (elem_start d m)) u ts us k rest = filtered_other f h (solid (elem_start d m)) u ts us k refl rest
  filtered_token f h (solid (elem_end d)) u ts us k rest = filtered_other f h (solid (elem_end d)) u ts us k refl rest

  -- the addresses that are left are those that the closure accepts
  pub kept_filtered : (f g : F) (old new : List Token) → KeepsInTurn called f old new g → IsFiltered called f (addresses old) (addresses new)
  kept_filtered f g [] new k = ([], f, refl, refl, ap addresses k.0)
  kept_filtered f g (t ∷ ts) new k =
      subst (λ (l : List Token). IsFiltered called f (addresses (t ∷ ts)) (addresses l)) (sym k.5)
      (filtered_token f k.1 t k.0 ts k.3 k.2 (kept_filtered k.1 g ts k.3 k.4))

  -- what a link and its text give alike stays
  module _ (give : Token → List ℕ) (alike : (bs : List ℕ) (s : Formatting) (url : List ℕ) → give (text bs s) ≡ give (solid (link bs s url))) where
    given_link : (bs : List ℕ) (s : Formatting) (url : List ℕ) (keep : Bool) → give (if keep then solid (link bs s url) else text bs s) ≡ give (solid (link bs s url))
    given_link bs s url true = refl
    given_link bs s url false = alike bs s url

    given_token : (f h : F) (t u : Token) → KeepsToken called f t u h → give u ≡ give t
    given_token f h (text bs s) u k = ap give k.0
    given_token f h (solid (markup bs)) u k = ap give k.0
    given_token f h (solid (link bs s url)) u k = ap give k.2 ∙ given_link bs s url k.0
    given_token f h (solid (transparent n s)) u k = ap give k.0
    given_token f h (solid (elem_start d m)) u k = ap give k.0
    given_token f h (solid (elem_end d)) u k = ap give k.0

    pub kept_gives : (f g : F) (old new : List Token) → KeepsInTurn called f old new g → flat_map give new ≡ flat_map give old
    kept_gives f g [] new k = ap (flat_map give) k.0
    kept_gives f g (t ∷ ts) new k = ap (flat_map give) k.5 ∙ (λ j. given_token f k.1 t k.0 k.2 j ++ kept_gives k.1 g ts k.3 k.4 j)

-- a closure that tests the address alone keeps the links that pass the test
module _ {F : Type 0} (calls : Mut F (Bor (List ℕ) × Unit {0}) Bool) (allowed : List ℕ → Bool) where
  abbrev Allows : F → Type 0
  Allows f = ComputesKey calls allowed f

  kept_by_token : (f h : F) (t u : Token) → Allows f → KeepsToken (CalledAt calls) f t u h → (u ≡ kept_link allowed t) × Allows h
  kept_by_token f h (text bs s) u a k = (k.0, subst Allows (sym k.1) a)
  kept_by_token f h (solid (markup bs)) u a k = (k.0, subst Allows (sym k.1) a)
  kept_by_token f h (solid (link bs s url)) u a k =
      let next = λ (xs : List (Bor (List ℕ) × Unit {0})). a.at ((k.1.shown, tt) ∷ xs) k.0 h k.1.called in
      let result : k.0 ≡ allowed url = (next []).0 ∙ ap allowed k.1.shows in (
        k.2 ∙ ap (λ keep. if keep then solid (link bs s url) else text bs s) result,
        record { at = λ xs. (next xs).1 },
      )
  kept_by_token f h (solid (transparent n s)) u a k = (k.0, subst Allows (sym k.1) a)
  kept_by_token f h (solid (elem_start d m)) u a k = (k.0, subst Allows (sym k.1) a)
  kept_by_token f h (solid (elem_end d)) u a k = (k.0, subst Allows (sym k.1) a)

  pub kept_by : (f g : F) (old new : List Token) → Allows f → KeepsInTurn (CalledAt calls) f old new g → new ≡ kept_links allowed old
  kept_by f g [] new a k = k.0
  kept_by f g (t ∷ ts) new a k =
      let one = kept_by_token f k.1 t k.0 a k.2 in
      k.5 ∙ (λ j. one.0 j ∷ kept_by k.1 g ts k.3 one.1 k.4 j)

pub all_allowed : (allowed : List ℕ → Bool) (ts : List Token) → list_all allowed (addresses (kept_links allowed ts)) ≡ true
all_allowed allowed [] = refl
all_allowed allowed (text bs f ∷ ts) = all_allowed allowed ts
all_allowed allowed (solid (markup bs) ∷ ts) = all_allowed allowed ts
all_allowed allowed (solid (link bs f url) ∷ ts) =
    elim (allowed url) as (λ b. allowed url ≡ b → list_all allowed (link_address (cond b (solid (link bs f url)) (text bs f)) ++ addresses (kept_links allowed ts)) ≡ true) [
      | true ↦ λ e. rw e (all_allowed allowed ts)
      | false ↦ λ e. all_allowed allowed ts
    ] refl
all_allowed allowed (solid (transparent n f) ∷ ts) = all_allowed allowed ts
all_allowed allowed (solid (elem_start d m) ∷ ts) = all_allowed allowed ts
all_allowed allowed (solid (elem_end d) ∷ ts) = all_allowed allowed ts
