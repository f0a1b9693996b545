-- A tree and its tokens: the tokens are those of the tree, and no two trees have the same tokens.
use Rattle.std.proofs.Common.{◌≡◌, List, [], ◌∷◌, ◌++◌, map, refl, sym, ap, subst, ◌∙◌, append_assoc}
use Rattle.std.specs.Prelude.{Option}
use Rattle.std.specs.List.{flat_map}
use Rattle.std.proofs.lemmas.List.{append-nil}
use Rattle.std.proofs.lemmas.List.Folds.{flat_map-map}
use Rattle.csl_elements.specs.declared.formatting.Display.{Display}
use Rattle.csl_tree.specs.declared.elem.ElemChild.{ElemChild}
use Rattle.csl_tree.specs.declared.elem.ElemChild.TheOpen.{ElemChild-F, Elem-F, ElemChildren-F, Text, Elem, Markup, Link, Transparent}
use Rattle.csl_tree.specs.declared.elem.ElemChild.TheViews.{roll-ElemChild, roll-Elem, roll-ElemChildren}
use Rattle.csl_tree.specs.declared.elem.ElemChild.TheFolds.{map-ElemChild, map-Elem, map-ElemChildren, fold-roll-ElemChild, fold-roll-Elem, fold-roll-ElemChildren, fold_out-ElemChildren, fold_out-Elem, ind-ElemChild, ind-Elem, ind-ElemChildren}
use Rattle.csl_tree.specs.declared.elem.Elem as elem
use Rattle.csl_tree.specs.declared.elem.ElemChildren.{ElemChildren}
use Rattle.csl_tree.specs.Tokens.{Token, Solid, Meta, text, solid, elem_start, elem_end, elem_around, optional_meta, child_step, elem_step, children_step, child_tokens, elem_tokens, tokens}
use Rattle.csl_tree.specs.Tree.{Leaf, markup, link, transparent, Tree, empty_tree, text_then, leaf_then, element_then, ◌⊕◌, child_level, elem_level, children_level, child_tree, elem_tree, tree, row, leaf_token, tokens_of}

pub tree_out : (c : ElemChildren) → tree c ≡ row c.0.items
tree_out c = fold_out-ElemChildren Tree Tree Tree child_level elem_level children_level c

pub elem_tree_out : (e : elem.Elem) → elem_tree e ≡ element_then (elem.out-Elem e).display (optional_meta (elem.out-Elem e).meta) (tree (elem.out-Elem e).children) empty_tree
elem_tree_out e = fold_out-Elem Tree Tree Tree child_level elem_level children_level e

pub tokens_of-⊕ : (t u : Tree) → tokens_of (t ⊕ u) ≡ tokens_of t ++ tokens_of u
tokens_of-⊕ empty_tree u = refl
tokens_of-⊕ (text_then bs f t) u = ap (λ l. text bs f ∷ l) (tokens_of-⊕ t u)
tokens_of-⊕ (leaf_then l t) u = ap (λ w. solid (leaf_token l) ∷ w) (tokens_of-⊕ t u)
tokens_of-⊕ (element_then d m inside t) u = ap (λ l. elem_around d m (tokens_of inside) ++ l) (tokens_of-⊕ t u) ∙ sym (append_assoc (elem_around d m (tokens_of inside)) (tokens_of t) (tokens_of u))

abbrev ChildAgrees : ElemChild → Type 0
ChildAgrees k = child_tokens k ≡ tokens_of (child_tree k)

abbrev ElemAgrees : elem.Elem → Type 0
ElemAgrees e = elem_tokens e ≡ tokens_of (elem_tree e)

abbrev ChildrenAgree : ElemChildren → Type 0
ChildrenAgree c = tokens c ≡ tokens_of (tree c)

all_agree : (ks : List ((k : ElemChild) × ChildAgrees k)) → flat_map child_tokens (map (λ e. e.0) ks) ≡ tokens_of (row (map (λ e. e.0) ks))
all_agree [] = refl
all_agree (k ∷ ks) = (λ i. k.1 i ++ all_agree ks i) ∙ sym (tokens_of-⊕ (child_tree k.0) (row (map (λ e. e.0) ks)))

-- one level of a tree whose parts agree
child_layer : (y : ElemChild-F ((k : ElemChild) × ChildAgrees k) ((e : elem.Elem) × ElemAgrees e) ((c : ElemChildren) × ChildrenAgree c)) → ChildAgrees (roll-ElemChild (map-ElemChild _ _ _ ElemChild elem.Elem ElemChildren (λ e. e.0) (λ e. e.0) (λ e. e.0) y))
child_layer (Text t) = fold-roll-ElemChild (List Token) (List Token) (List Token) child_step elem_step children_step (Text t) ∙ sym (ap tokens_of (fold-roll-ElemChild Tree Tree Tree child_level elem_level children_level (Text t)))
child_layer (Elem e) = fold-roll-ElemChild (List Token) (List Token) (List Token) child_step elem_step children_step (Elem e.0) ∙ e.1 ∙ sym (ap tokens_of (fold-roll-ElemChild Tree Tree Tree child_level elem_level children_level (Elem e.0)))
child_layer (Markup s) = fold-roll-ElemChild (List Token) (List Token) (List Token) child_step elem_step children_step (Markup s) ∙ sym (ap tokens_of (fold-roll-ElemChild Tree Tree Tree child_level elem_level children_level (Markup s)))
child_layer (Link t url) = fold-roll-ElemChild (List Token) (List Token) (List Token) child_step elem_step children_step (Link t url) ∙ sym (ap tokens_of (fold-roll-ElemChild Tree Tree Tree child_level elem_level children_level (Link t url)))
child_layer (Transparent n f) = fold-roll-ElemChild (List Token) (List Token) (List Token) child_step elem_step children_step (Transparent n f) ∙ sym (ap tokens_of (fold-roll-ElemChild Tree Tree Tree child_level elem_level children_level (Transparent n f)))

elem_layer : (y : Elem-F ((k : ElemChild) × ChildAgrees k) ((e : elem.Elem) × ElemAgrees e) ((c : ElemChildren) × ChildrenAgree c)) → ElemAgrees (roll-Elem (map-Elem _ _ _ ElemChild elem.Elem ElemChildren (λ e. e.0) (λ e. e.0) (λ e. e.0) y))
elem_layer y =
    fold-roll-Elem (List Token) (List Token) (List Token) child_step elem_step children_step (map-Elem _ _ _ ElemChild elem.Elem ElemChildren (λ e. e.0) (λ e. e.0) (λ e. e.0) y)
    ∙ ap (elem_around y.display (optional_meta y.meta)) y.children.1
    ∙ sym (append-nil (elem_around y.display (optional_meta y.meta) (tokens_of (tree y.children.0))))
    ∙ sym (ap tokens_of (fold-roll-Elem Tree Tree Tree child_level elem_level children_level (map-Elem _ _ _ ElemChild elem.Elem ElemChildren (λ e. e.0) (λ e. e.0) (λ e. e.0) y)))

children_layer : (y : ElemChildren-F ((k : ElemChild) × ChildAgrees k) ((e : elem.Elem) × ElemAgrees e) ((c : ElemChildren) × ChildrenAgree c)) → ChildrenAgree (roll-ElemChildren (map-ElemChildren _ _ _ ElemChild elem.Elem ElemChildren (λ e. e.0) (λ e. e.0) (λ e. e.0) y))
children_layer y =
    fold-roll-ElemChildren (List Token) (List Token) (List Token) child_step elem_step children_step (map-ElemChildren _ _ _ ElemChild elem.Elem ElemChildren (λ e. e.0) (λ e. e.0) (λ e. e.0) y)
    ∙ flat_map-map (λ ts. ts) child_tokens (map (λ e. e.0) y.0.items)
    ∙ all_agree y.0.items
    ∙ sym (ap tokens_of (fold-roll-ElemChildren Tree Tree Tree child_level elem_level children_level (map-ElemChildren _ _ _ ElemChild elem.Elem ElemChildren (λ e. e.0) (λ e. e.0) (λ e. e.0) y)))

pub child_tokens_are : (k : ElemChild) → ChildAgrees k
child_tokens_are = ind-ElemChild ChildAgrees ElemAgrees ChildrenAgree
    (λ x y is. subst (λ z. ChildAgrees (roll-ElemChild z)) is (child_layer y))
    (λ x y is. subst (λ z. ElemAgrees (roll-Elem z)) is (elem_layer y))
    (λ x y is. subst (λ z. ChildrenAgree (roll-ElemChildren z)) is (children_layer y))

pub elem_tokens_agree : (e : elem.Elem) → ElemAgrees e
elem_tokens_agree = ind-Elem ChildAgrees ElemAgrees ChildrenAgree
    (λ x y is. subst (λ z. ChildAgrees (roll-ElemChild z)) is (child_layer y))
    (λ x y is. subst (λ z. ElemAgrees (roll-Elem z)) is (elem_layer y))
    (λ x y is. subst (λ z. ChildrenAgree (roll-ElemChildren z)) is (children_layer y))

pub tokens_are : (c : ElemChildren) → ChildrenAgree c
tokens_are = ind-ElemChildren ChildAgrees ElemAgrees ChildrenAgree
    (λ x y is. subst (λ z. ChildAgrees (roll-ElemChild z)) is (child_layer y))
    (λ x y is. subst (λ z. ElemAgrees (roll-Elem z)) is (elem_layer y))
    (λ x y is. subst (λ z. ChildrenAgree (roll-ElemChildren z)) is (children_layer y))

pub row_tokens : (ks : List ElemChild) → flat_map child_tokens ks ≡ tokens_of (row ks)
row_tokens [] = refl
row_tokens (k ∷ ks) = (λ i. child_tokens_are k i ++ row_tokens ks i) ∙ sym (tokens_of-⊕ (child_tree k) (row ks))

-- ---- no two trees have the same tokens

-- the list begins with no node: it is empty, or an element ends there
abbrev Ends : List Token → Type 0
Ends [] = Unit {0}
Ends (text bs f ∷ l) = ⊥
Ends (solid (Solid.markup bs) ∷ l) = ⊥
Ends (solid (Solid.link bs f url) ∷ l) = ⊥
Ends (solid (Solid.transparent n f) ∷ l) = ⊥
Ends (solid (elem_start d m) ∷ l) = ⊥
Ends (solid (elem_end d) ∷ l) = Unit {0}

leaf_begins : (l : Leaf) (ts : List Token) → Ends (solid (leaf_token l) ∷ ts) → ⊥
leaf_begins (markup bs) ts h = h
leaf_begins (link bs f url) ts h = h
leaf_begins (transparent n f) ts h = h

leaf_opens_not : (l : Leaf) (d : Option Display) (m : Option Meta) → leaf_token l ≡ elem_start d m → ⊥
leaf_opens_not (markup bs) d m h = absurd (cc h)
leaf_opens_not (link bs f url) d m h = absurd (cc h)
leaf_opens_not (transparent n f) d m h = absurd (cc h)

same_leaf : (l k : Leaf) → leaf_token l ≡ leaf_token k → l ≡ k
same_leaf (markup bs) (markup cs) h = cc h
same_leaf (markup bs) (link cs g url) h = cc h
same_leaf (markup bs) (transparent n g) h = cc h
same_leaf (link bs f url) (markup cs) h = cc h
same_leaf (link bs f url) (link cs g other) h = cc h
same_leaf (link bs f url) (transparent n g) h = cc h
same_leaf (transparent n f) (markup cs) h = cc h
same_leaf (transparent n f) (link cs g url) h = cc h
same_leaf (transparent n f) (transparent k g) h = cc h

-- the tokens of an element, and the tokens after it
element_tokens : (d : Option Display) (m : Option Meta) (inside t : Tree) (r : List Token) → tokens_of (element_then d m inside t) ++ r ≡ solid (elem_start d m) ∷ (tokens_of inside ++ solid (elem_end d) ∷ (tokens_of t ++ r))
element_tokens d m inside t r = ap (λ l. solid (elem_start d m) ∷ l) (append_assoc (tokens_of inside ++ solid (elem_end d) ∷ []) (tokens_of t) r ∙ append_assoc (tokens_of inside) (solid (elem_end d) ∷ []) (tokens_of t ++ r))

same_trees : (t u : Tree) (r s : List Token) → Ends r → Ends s → tokens_of t ++ r ≡ tokens_of u ++ s → (t ≡ u) × (r ≡ s)
same_trees empty_tree empty_tree r s a b e = (refl, e)
same_trees empty_tree (text_then bs f u) r s a b e = absurd (subst Ends e a)
same_trees empty_tree (leaf_then l u) r s a b e = absurd (leaf_begins l _ (subst Ends e a))
same_trees empty_tree (element_then d m inside u) r s a b e = absurd (subst Ends e a)
same_trees (text_then bs f t) empty_tree r s a b e = absurd (subst Ends (sym e) b)
same_trees (leaf_then l t) empty_tree r s a b e = absurd (leaf_begins l _ (subst Ends (sym e) b))
same_trees (element_then d m inside t) empty_tree r s a b e = absurd (subst Ends (sym e) b)
same_trees (text_then bs f t) (text_then cs g u) r s a b e =
    let rest : tokens_of t ++ r ≡ tokens_of u ++ s = cc e in
    let more = same_trees t u r s a b rest in
    let same : text bs f ≡ text cs g = cc e in
    let x : bs ≡ cs = cc same in
    let y : f ≡ g = cc same in
    let z : t ≡ u = more.0 in
    (cc (x, y, z), more.1)
same_trees (text_then bs f t) (leaf_then l u) r s a b e = absurd (cc e)
same_trees (text_then bs f t) (element_then d m inside u) r s a b e = absurd (cc e)
same_trees (leaf_then l t) (text_then bs f u) r s a b e = absurd (cc e)
same_trees (leaf_then l t) (leaf_then k u) r s a b e =
    let rest : tokens_of t ++ r ≡ tokens_of u ++ s = cc e in
    let more = same_trees t u r s a b rest in
    let same : leaf_token l ≡ leaf_token k = cc e in
    let x : l ≡ k = same_leaf l k same in
    let z : t ≡ u = more.0 in
    (cc (x, z), more.1)
same_trees (leaf_then l t) (element_then d m inside u) r s a b e = let same : leaf_token l ≡ elem_start d m = cc e in absurd (leaf_opens_not l d m same)
same_trees (element_then d m inside t) (text_then bs f u) r s a b e = absurd (cc e)
same_trees (element_then d m inside t) (leaf_then l u) r s a b e = let same : leaf_token l ≡ elem_start d m = cc e in absurd (leaf_opens_not l d m same)
same_trees (element_then d m inside t) (element_then c k inner u) r s a b e =
    let whole = sym (element_tokens d m inside t r) ∙ e ∙ element_tokens c k inner u s in
    let first : elem_start d m ≡ elem_start c k = cc whole in
    let rest : tokens_of inside ++ solid (elem_end d) ∷ (tokens_of t ++ r) ≡ tokens_of inner ++ solid (elem_end c) ∷ (tokens_of u ++ s) = cc whole in
    let within = same_trees inside inner (solid (elem_end d) ∷ (tokens_of t ++ r)) (solid (elem_end c) ∷ (tokens_of u ++ s)) tt tt rest in
    let then_rest : solid (elem_end d) ∷ (tokens_of t ++ r) ≡ solid (elem_end c) ∷ (tokens_of u ++ s) = within.1 in
    let after : tokens_of t ++ r ≡ tokens_of u ++ s = cc then_rest in
    let more = same_trees t u r s a b after in
    let x : d ≡ c = cc first in
    let y : m ≡ k = cc first in
    let z : inside ≡ inner = within.0 in
    let w : t ≡ u = more.0 in
    (cc (x, y, z, w), more.1)

pub tokens_tell : (t u : Tree) → tokens_of t ≡ tokens_of u → t ≡ u
tokens_tell t u e = (same_trees t u [] [] tt tt (append-nil (tokens_of t) ∙ e ∙ sym (append-nil (tokens_of u)))).0
