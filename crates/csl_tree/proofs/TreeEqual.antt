-- `==` of two trees, two elements and two children: true exactly if their tokens are equal.
use Rattle.std.proofs.Common.{◌≡◌, ℕ, Bool, true, false, List, [], ◌∷◌, map, refl, sym, ap, subst, ◌∙◌, rules}
use Rattle.std.specs.Prelude.{◌==◌}
use Rattle.std.specs.Bool.{Decides}
use Rattle.std.specs.Cmp.Lexicographic.{pointwise}
use Rattle.std.proofs.lemmas.Bool.{false≢true}
use Rattle.lit_model.proofs.ByValue.{both, through, option_same, text_decides}
use Rattle.lit_model.proofs.Depth.{EachOf}
use Rattle.csl_elements.specs.declared.formatting.Display.{Display}
use Rattle.csl_elements.specs.contracts.formatting.DisplayPartialEq.TheImpl.{eq-value as eq_display}
use Rattle.csl_tree.specs.contracts.elem.ElemChildPartialEq.TheImpl.{eq-value as eq_child}
use Rattle.csl_tree.specs.contracts.elem.ElemPartialEq.TheImpl.{eq-value as eq_elem}
use Rattle.csl_tree.specs.contracts.elem.ElemChildrenPartialEq.TheImpl.{eq-value as eq_children}
use Rattle.csl_tree.specs.declared.elem.ElemChild.{ElemChild, out-ElemChild}
use Rattle.csl_tree.specs.declared.elem.ElemChild.TheOpen.{ElemChild-F, Elem-F, ElemChildren-F, Text, Elem, Markup, Link, Transparent}
use Rattle.csl_tree.specs.declared.elem.ElemChild.TheViews.{roll-ElemChild, roll-Elem, roll-ElemChildren, out-roll-ElemChild}
use Rattle.csl_tree.specs.declared.elem.ElemChild.TheFolds.{map-ElemChild, map-Elem, map-ElemChildren, fold-roll-ElemChild, fold_out-ElemChild, ind-ElemChild, ind-Elem, ind-ElemChildren}
use Rattle.csl_tree.specs.declared.elem.Elem as elem
use Rattle.csl_tree.specs.declared.elem.ElemChildren.{ElemChildren}
use Rattle.csl_tree.specs.Tokens.{tokens, elem_tokens, child_tokens}
use Rattle.csl_tree.specs.Tree.{markup, link, transparent, Tree, empty_tree, text_then, leaf_then, element_then, ◌⊕◌, child_level, elem_level, children_level, child_tree, elem_tree, tree, row, tokens_of}
use Rattle.csl_tree.specs.Simplify.{is_empty_tree}
use Rattle.csl_tree.proofs.MetaEqual.{formatting_decides, formatted_same, metas_decide}
use Rattle.csl_tree.proofs.TreeStep.{Held, same_child, child_out, elem_out, children_out}
use Rattle.csl_tree.proofs.TreeTokens.{tree_out, elem_tree_out, child_tokens_are, elem_tokens_agree, tokens_are, tokens_tell}

-- ---- nodes in a row determine each node

head_of : Tree → Tree
head_of empty_tree = empty_tree
head_of (text_then bs f t) = text_then bs f empty_tree
head_of (leaf_then l t) = leaf_then l empty_tree
head_of (element_then d m inside t) = element_then d m inside empty_tree

rest_of : Tree → Tree
rest_of empty_tree = empty_tree
rest_of (text_then bs f t) = t
rest_of (leaf_then l t) = t
rest_of (element_then d m inside t) = t

is_element : Tree → Bool
is_element empty_tree = false
is_element (text_then bs f t) = false
is_element (leaf_then l t) = false
is_element (element_then d m inside t) = true

-- the tree is one node: in a row with any tree, it is the head, and that tree is the rest
abbrev IsOne : Tree → Type 0
IsOne t = (u : Tree) → (head_of (t ⊕ u) ≡ t) × ((rest_of (t ⊕ u) ≡ u) × (is_empty_tree (t ⊕ u) ≡ false))

-- one level of a child, as a tree
abbrev level_tree : ElemChild-F ElemChild elem.Elem ElemChildren → Tree
level_tree x = child_level (map-ElemChild ElemChild elem.Elem ElemChildren Tree Tree Tree child_tree elem_tree tree x)

child_tree_out : (k : ElemChild) → child_tree k ≡ level_tree (out-ElemChild k)
child_tree_out k = fold_out-ElemChild Tree Tree Tree child_level elem_level children_level k

one_level : (x : ElemChild-F ElemChild elem.Elem ElemChildren) → IsOne (level_tree x)
unfolding head_of rest_of
one_level (Text t) = λ u. (refl, (refl, refl))
one_level (Elem e) = subst IsOne (sym (elem_tree_out e)) (λ u. (refl, (refl, refl)))
one_level (Markup s) = λ u. (refl, (refl, refl))
one_level (Link t url) = λ u. (refl, (refl, refl))
one_level (Transparent i f) = λ u. (refl, (refl, refl))

one_child : (k : ElemChild) → IsOne (child_tree k)
one_child k = subst IsOne (sym (child_tree_out k)) (one_level (out-ElemChild k))

-- ---- the claims for the parts

abbrev ChildTells : ElemChild → Type 0
ChildTells k = (l : ElemChild) → Decides (eq_child.it k l) (child_tree k ≡ child_tree l)

abbrev ElemTells : elem.Elem → Type 0
ElemTells e = (f : elem.Elem) → Decides (eq_elem.it e f) (elem_tree e ≡ elem_tree f)

abbrev ChildrenTell : ElemChildren → Type 0
ChildrenTell c = (d : ElemChildren) → Decides (eq_children.it c d) (tree c ≡ tree d)

apart : {P : Type 0} → (P → ⊥) → Decides false P
apart never = (λ h. absurd (false≢true h), λ h. absurd (never h))

-- ---- a child of another variant

no_element : (e : elem.Elem) (t : Tree) → is_element t ≡ false → elem_tree e ≡ t → ⊥
unfolding is_element
no_element e t other same = false≢true (sym other ∙ ap is_element (sym same) ∙ ap is_element (elem_tree_out e))

index_decides : (i j : ℕ) → Decides (i == j) (i ≡ j)
index_decides i j = search rules

levels_decide : (x y : ElemChild-F ElemChild elem.Elem ElemChildren) → Held ElemTells x → Decides (same_child eq_elem.it x y) (level_tree x ≡ level_tree y)
unfolding is_element
levels_decide (Text a) (Text b) told = through _ (formatted_same a b) (λ h i. text_then (h.0 i) (h.1 i) empty_tree) (λ h. (cc h, cc h))
levels_decide (Text a) (Elem f) told = apart (λ h. no_element f _ refl (sym h))
levels_decide (Text a) (Markup b) told = apart (λ h. cc h)
levels_decide (Text a) (Link b other) told = apart (λ h. cc h)
levels_decide (Text a) (Transparent j g) told = apart (λ h. cc h)
levels_decide (Elem e) (Text b) told = apart (no_element e _ refl)
levels_decide (Elem e) (Elem f) told = told f
levels_decide (Elem e) (Markup b) told = apart (no_element e _ refl)
levels_decide (Elem e) (Link b other) told = apart (no_element e _ refl)
levels_decide (Elem e) (Transparent j g) told = apart (no_element e _ refl)
levels_decide (Markup a) (Text b) told = apart (λ h. cc h)
levels_decide (Markup a) (Elem f) told = apart (λ h. no_element f _ refl (sym h))
levels_decide (Markup a) (Markup b) told = through _ (text_decides a b) (ap (λ bs. leaf_then (markup bs) empty_tree)) (λ h. cc h)
levels_decide (Markup a) (Link b other) told = apart (λ h. cc h)
levels_decide (Markup a) (Transparent j g) told = apart (λ h. cc h)
levels_decide (Link a url) (Text b) told = apart (λ h. cc h)
levels_decide (Link a url) (Elem f) told = apart (λ h. no_element f _ refl (sym h))
levels_decide (Link a url) (Markup b) told = apart (λ h. cc h)
levels_decide (Link a url) (Link b other) told = through _ (both _ _ (formatted_same a b) (text_decides url other)) (λ h i. leaf_then (link (h.0.0 i) (h.0.1 i) (h.1 i)) empty_tree) (λ h. ((cc h, cc h), cc h))
levels_decide (Link a url) (Transparent j g) told = apart (λ h. cc h)
levels_decide (Transparent i f) (Text b) told = apart (λ h. cc h)
levels_decide (Transparent i f) (Elem e) told = apart (λ h. no_element e _ refl (sym h))
levels_decide (Transparent i f) (Markup b) told = apart (λ h. cc h)
levels_decide (Transparent i f) (Link b other) told = apart (λ h. cc h)
levels_decide (Transparent i f) (Transparent j g) told = through _ (both _ _ (index_decides i j) (formatting_decides f g)) (λ h k. leaf_then (transparent (h.0 k) (h.1 k)) empty_tree) (λ h. (cc h, cc h))

-- ---- one level, from the claims for its parts

child_told : (x : ElemChild-F ElemChild elem.Elem ElemChildren) → Held ElemTells x → ChildTells (roll-ElemChild x)
child_told x told l =
    let opened = child_out (roll-ElemChild x) l ∙ ap (λ (z : ElemChild-F ElemChild elem.Elem ElemChildren). same_child eq_elem.it z (out-ElemChild l)) (out-roll-ElemChild x) in
    let rolled = fold-roll-ElemChild Tree Tree Tree child_level elem_level children_level x in
    subst (λ q. Decides q (child_tree (roll-ElemChild x) ≡ child_tree l)) (sym opened) (through _ (levels_decide x (out-ElemChild l) told)
    (λ h. rolled ∙ h ∙ sym (child_tree_out l))
    (λ h. sym rolled ∙ h ∙ child_tree_out l))

display_decides : (d e : Display) → Decides (eq_display.it d e) (d ≡ e)
display_decides d e = search rules

elem_told : (a : elem.Elem) → ChildrenTell a.children → ElemTells a
elem_told a told b = subst (λ q. Decides q (elem_tree a ≡ elem_tree b)) (sym (elem_out a b)) (through _
    (both _ _ (told b.children) (both _ _ (option_same eq_display.it display_decides a.display b.display) (metas_decide a.meta b.meta)))
    (λ h. elem_tree_out a ∙ (λ i. element_then (h.1.0 i) (h.1.1 i) (h.0 i) empty_tree) ∙ sym (elem_tree_out b))
    (λ h. let opened = sym (elem_tree_out a) ∙ h ∙ elem_tree_out b in (cc opened, (cc opened, cc opened))))

rows_decide : (ks ls : List ElemChild) → EachOf ChildTells ks → Decides (pointwise eq_child.it ks ls) (row ks ≡ row ls)
rows_decide [] [] told = (λ h. refl, λ h. refl)
rows_decide [] (l ∷ ls) told = apart (λ h. false≢true (sym (one_child l (row ls)).1.1 ∙ ap is_empty_tree (sym h)))
rows_decide (k ∷ ks) [] told = apart (λ h. false≢true (sym (one_child k (row ks)).1.1 ∙ ap is_empty_tree h))
rows_decide (k ∷ ks) (l ∷ ls) told =
    let first = one_child k (row ks) in
    let second = one_child l (row ls) in
    through _ (both _ _ (told.0 l) (rows_decide ks ls told.1))
    (λ h i. h.0 i ⊕ h.1 i)
    (λ h. (sym first.0 ∙ ap head_of h ∙ second.0, sym first.1.0 ∙ ap rest_of h ∙ second.1.0))

children_told : (c : ElemChildren) → EachOf ChildTells c.0.items → ChildrenTell c
children_told c told d = subst (λ q. Decides q (tree c ≡ tree d)) (sym (children_out c d)) (through _ (rows_decide c.0.items d.0.items told)
    (λ h. tree_out c ∙ h ∙ sym (tree_out d))
    (λ h. sym (tree_out c) ∙ h ∙ tree_out d))

-- ---- every tree

child_layer : (y : ElemChild-F ((k : ElemChild) × ChildTells k) ((e : elem.Elem) × ElemTells e) ((c : ElemChildren) × ChildrenTell c)) → Held ElemTells (map-ElemChild _ _ _ ElemChild elem.Elem ElemChildren (λ e. e.0) (λ e. e.0) (λ e. e.0) y)
child_layer (Text t) = tt
child_layer (Elem e) = e.1
child_layer (Markup s) = tt
child_layer (Link t url) = tt
child_layer (Transparent i f) = tt

each_tells : (ks : List ((k : ElemChild) × ChildTells k)) → EachOf ChildTells (map (λ e. e.0) ks)
each_tells [] = tt
each_tells (k ∷ ks) = (k.1, each_tells ks)

child_step : (x : ElemChild-F ElemChild elem.Elem ElemChildren) (y : ElemChild-F ((k : ElemChild) × ChildTells k) ((e : elem.Elem) × ElemTells e) ((c : ElemChildren) × ChildrenTell c)) → map-ElemChild _ _ _ ElemChild elem.Elem ElemChildren (λ e. e.0) (λ e. e.0) (λ e. e.0) y ≡ x → ChildTells (roll-ElemChild x)
child_step x y is = child_told x (subst (Held ElemTells) is (child_layer y))

elem_step : (x : Elem-F ElemChild elem.Elem ElemChildren) (y : Elem-F ((k : ElemChild) × ChildTells k) ((e : elem.Elem) × ElemTells e) ((c : ElemChildren) × ChildrenTell c)) → map-Elem _ _ _ ElemChild elem.Elem ElemChildren (λ e. e.0) (λ e. e.0) (λ e. e.0) y ≡ x → ElemTells (roll-Elem x)
elem_step x y is = elem_told (roll-Elem x) (subst (λ (z : Elem-F ElemChild elem.Elem ElemChildren). ChildrenTell z.children) is y.children.1)

children_step : (x : ElemChildren-F ElemChild elem.Elem ElemChildren) (y : ElemChildren-F ((k : ElemChild) × ChildTells k) ((e : elem.Elem) × ElemTells e) ((c : ElemChildren) × ChildrenTell c)) → map-ElemChildren _ _ _ ElemChild elem.Elem ElemChildren (λ e. e.0) (λ e. e.0) (λ e. e.0) y ≡ x → ChildrenTell (roll-ElemChildren x)
children_step x y is = children_told (roll-ElemChildren x) (subst (λ (z : ElemChildren-F ElemChild elem.Elem ElemChildren). EachOf ChildTells z.0.items) is (each_tells y.0.items))

pub child_decides : (a b : ElemChild) → Decides (eq_child.it a b) (child_tokens a ≡ child_tokens b)
child_decides a b = through _ (ind-ElemChild ChildTells ElemTells ChildrenTell child_step elem_step children_step a b)
    (λ h. child_tokens_are a ∙ ap tokens_of h ∙ sym (child_tokens_are b))
    (λ h. tokens_tell (child_tree a) (child_tree b) (sym (child_tokens_are a) ∙ h ∙ child_tokens_are b))

pub elem_decides : (a b : elem.Elem) → Decides (eq_elem.it a b) (elem_tokens a ≡ elem_tokens b)
elem_decides a b = through _ (ind-Elem ChildTells ElemTells ChildrenTell child_step elem_step children_step a b)
    (λ h. elem_tokens_agree a ∙ ap tokens_of h ∙ sym (elem_tokens_agree b))
    (λ h. tokens_tell (elem_tree a) (elem_tree b) (sym (elem_tokens_agree a) ∙ h ∙ elem_tokens_agree b))

pub children_decide : (a b : ElemChildren) → Decides (eq_children.it a b) (tokens a ≡ tokens b)
children_decide a b = through _ (ind-ElemChildren ChildTells ElemTells ChildrenTell child_step elem_step children_step a b)
    (λ h. tokens_are a ∙ ap tokens_of h ∙ sym (tokens_are b))
    (λ h. tokens_tell (tree a) (tree b) (sym (tokens_are a) ∙ h ∙ tokens_are b))
