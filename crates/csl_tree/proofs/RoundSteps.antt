-- A round step by step: the tree after each child.
use Rattle.std.proofs.Common.{◌≡◌, ℕ, Bool, true, false, cond, List, [], ◌∷◌, ◌++◌, ◌↔◌, ◌<◌, ◌≤◌, length, drop, refl, sym, ap, subst, ◌∙◌, append_assoc, drop_of_length-le, arith}
use Rattle.std.specs.Prelude.{Option, Some, None, IsTrue, string_bytes, if◌then◌else◌}
use Rattle.std.specs.Bool.{OnFalse}
use Rattle.std.specs.declared.string.String.{String}
use Rattle.std.specs.declared.alloc.Global.{Global}
use Rattle.std.specs.List.{flat_map}
use Rattle.csl_elements.specs.declared.formatting.Display.{Display}
use Rattle.csl_tree.specs.declared.formatting.Formatting.{Formatting}
use Rattle.csl_tree.specs.declared.formatting.Formatted.{Formatted}
use Rattle.csl_tree.specs.declared.elem.ElemChild.{ElemChild}
use Rattle.csl_tree.specs.declared.elem.ElemChild.TheOpen.{Text, Elem, Markup, Link, Transparent}
use Rattle.csl_tree.specs.declared.elem.ElemChild.TheFolds.{fold-roll-ElemChild}
use Rattle.csl_tree.specs.declared.elem.ElemChild.TheVariants as variants
use Rattle.csl_tree.specs.declared.elem.Elem as elem
use Rattle.csl_tree.specs.declared.elem.ElemChildren.{ElemChildren}
use Rattle.csl_tree.specs.Formatting.{same_formatting}
use Rattle.csl_tree.specs.Tokens.{Token, Solid, Meta, text, solid, elem_start, elem_end, elem_around, optional_meta, child_tokens, tokens}
use Rattle.csl_tree.specs.Content.{◌++>◌}
use Rattle.csl_tree.specs.Tree.{Leaf, Tree, empty_tree, text_then, leaf_then, element_then, ◌⊕◌, row, child_level, elem_level, children_level, child_tree, elem_tree, tree, leaf_token, tokens_of}
use Rattle.csl_tree.specs.Simplify.{is_plain, with_text, simplified_elem, simplify_once_after, simplify_once, tree_inside, with_inside, styled_value, is_normal, node_count}
use Rattle.csl_tree.proofs.Appended.{join_after}
use Rattle.csl_tree.proofs.TreeTokens.{tree_out, elem_tree_out, child_tokens_are, tokens_are, row_tokens, tokens_tell}
use Rattle.csl_tree.proofs.Rounds.{⊕-nothing, ⊕-assoc, stands_for-itself, stands_for-inside, styled_kept, normal_unchanged, fewer}

-- ---- the tokens of a text after a tree

solid_first : (s : Solid) (a b : List Token) → (solid s ∷ a) ++> b ≡ solid s ∷ (a ++> b)
solid_first s [] b = refl
solid_first s (t ∷ a) b = refl

element_first : (d : Option Display) (m : Option Meta) (within after b : List Token) → (elem_around d m within ++ after) ++> b ≡ elem_around d m within ++ (after ++> b)
element_first d m within after b =
    ap (λ l. l ++> b) (append_assoc (solid (elem_start d m) ∷ within) (solid (elem_end d) ∷ []) after)
    ∙ join_after (solid (elem_start d m) ∷ within) (solid (elem_end d)) after b
    ∙ ap (λ l. (solid (elem_start d m) ∷ within) ++ l) (solid_first (elem_end d) after b)
    ∙ sym (append_assoc (solid (elem_start d m) ∷ within) (solid (elem_end d) ∷ []) (after ++> b))

pub tokens_of-with_text : (t : Tree) (bs : List ℕ) (f : Formatting) → tokens_of (with_text t bs f) ≡ tokens_of t ++> text bs f ∷ []
tokens_of-with_text empty_tree bs f = refl
tokens_of-with_text (text_then cs g empty_tree) bs f =
    elim (same_formatting g f) as (λ s. tokens_of (cond s (text_then (cs ++ bs) g empty_tree) (text_then cs g (text_then bs f empty_tree))) ≡ cond s (text (cs ++ bs) g ∷ []) (text cs g ∷ text bs f ∷ [])) [ true ↦ refl | false ↦ refl ]
tokens_of-with_text (text_then cs g (text_then ds h t)) bs f = ap (λ l. text cs g ∷ l) (tokens_of-with_text (text_then ds h t) bs f)
tokens_of-with_text (text_then cs g (leaf_then l t)) bs f = ap (λ w. text cs g ∷ w) (tokens_of-with_text (leaf_then l t) bs f)
tokens_of-with_text (text_then cs g (element_then d m inner t)) bs f = ap (λ l. text cs g ∷ l) (tokens_of-with_text (element_then d m inner t) bs f)
tokens_of-with_text (leaf_then l t) bs f = ap (λ w. solid (leaf_token l) ∷ w) (tokens_of-with_text t bs f) ∙ sym (solid_first (leaf_token l) (tokens_of t) (text bs f ∷ []))
tokens_of-with_text (element_then d m inner t) bs f = ap (λ l. elem_around d m (tokens_of inner) ++ l) (tokens_of-with_text t bs f) ∙ sym (element_first d m (tokens_of inner) (tokens_of t) (text bs f ∷ []))

-- ---- children in a row

pub row-append : (xs ys : List ElemChild) → row (xs ++ ys) ≡ row xs ⊕ row ys
row-append [] ys = refl
row-append (x ∷ xs) ys = ap (λ t. child_tree x ⊕ t) (row-append xs ys) ∙ sym (⊕-assoc (child_tree x) (row xs) (row ys))

-- equal tokens, equal trees
same_child : (a b : ElemChild) → child_tokens a ≡ child_tokens b → child_tree a ≡ child_tree b
same_child a b h = tokens_tell (child_tree a) (child_tree b) (sym (child_tokens_are a) ∙ h ∙ child_tokens_are b)

pub same_children : (a b : ElemChildren) → tokens a ≡ tokens b → tree a ≡ tree b
same_children a b h = tokens_tell (tree a) (tree b) (sym (tokens_are a) ∙ h ∙ tokens_are b)

pub round_behind-⊕ : (b t u : Tree) → simplify_once_after b (t ⊕ u) ≡ simplify_once_after (simplify_once_after b t) u
round_behind-⊕ b empty_tree u = refl
round_behind-⊕ b (text_then bs f t) u = round_behind-⊕ (with_text b bs f) t u
round_behind-⊕ b (leaf_then l t) u = round_behind-⊕ (b ⊕ leaf_then l empty_tree) t u
round_behind-⊕ b (element_then d m inner t) u = round_behind-⊕ (b ⊕ simplified_elem d m inner (simplify_once_after empty_tree inner)) t u

-- ---- one child

text_tree : (f : Formatted) → child_tree (variants.Text f) ≡ text_then (string_bytes f.text) f.formatting empty_tree
text_tree f = ap child_tree (sym (variants.rolls-Text f)) ∙ fold-roll-ElemChild Tree Tree Tree child_level elem_level children_level (Text f)

pub elem_child_tree : (e : elem.Elem) → child_tree (variants.Elem e) ≡ elem_tree e
elem_child_tree e = ap child_tree (sym (variants.rolls-Elem e)) ∙ fold-roll-ElemChild Tree Tree Tree child_level elem_level children_level (Elem e)

-- a child that is a leaf
pub record IsLeaf (k : ElemChild) : Type 0 where
  pub leaf : Leaf
  pub is : child_tree k ≡ leaf_then leaf empty_tree

pub markup_leaf : (m : String Global) → IsLeaf (variants.Markup m)
markup_leaf m = record { leaf = _; is = ap child_tree (sym (variants.rolls-Markup m)) ∙ fold-roll-ElemChild Tree Tree Tree child_level elem_level children_level (Markup m) }

pub link_leaf : (f : Formatted) (u : String Global) → IsLeaf (variants.Link f u)
link_leaf f u = record { leaf = _; is = ap child_tree (sym (variants.rolls-Link f u)) ∙ fold-roll-ElemChild Tree Tree Tree child_level elem_level children_level (Link f u) }

pub transparent_leaf : (n : ℕ) (f : Formatting) → IsLeaf (variants.Transparent n f)
transparent_leaf n f = record { leaf = _; is = ap child_tree (sym (variants.rolls-Transparent n f)) ∙ fold-roll-ElemChild Tree Tree Tree child_level elem_level children_level (Transparent n f) }

-- a text, which may join the last child
pub text_put : (xs ys : List ElemChild) (f : Formatted) (bs : List ℕ) → bs ≡ string_bytes f.text → flat_map child_tokens ys ≡ flat_map child_tokens xs ++> text bs f.formatting ∷ [] → row ys ≡ simplify_once_after (row xs) (child_tree (variants.Text f))
text_put xs ys f bs e h =
    tokens_tell (row ys) (with_text (row xs) bs f.formatting) (sym (row_tokens ys) ∙ h ∙ ap (λ l. l ++> text bs f.formatting ∷ []) (row_tokens xs) ∙ sym (tokens_of-with_text (row xs) bs f.formatting))
    ∙ ap (λ l. with_text (row xs) l f.formatting) e
    ∙ sym (ap (simplify_once_after (row xs)) (text_tree f))

-- a copy of a leaf
pub leaf_put : (xs ys : List ElemChild) (k copy : ElemChild) → IsLeaf k → ys ≡ xs ++ copy ∷ [] → child_tokens copy ≡ child_tokens k → row ys ≡ simplify_once_after (row xs) (child_tree k)
leaf_put xs ys k copy l e h =
    ap row e ∙ row-append xs (copy ∷ []) ∙ ap (λ t. row xs ⊕ t) (⊕-nothing (child_tree copy) ∙ same_child copy k h ∙ l.is)
    ∙ sym (ap (simplify_once_after (row xs)) l.is)

-- the test of the code decides whether an element is plain
pub plain_is : (d : Option Display) (m : Option Meta) (b : Bool) → (IsTrue b ↔ (d ≡ None) × (m ≡ None)) → is_plain d m ≡ b
plain_is None None b h = sym (h.1 (refl, refl))
plain_is None (Some m) true h = absurd (cc ((h.0 refl).1))
plain_is None (Some m) false h = refl
plain_is (Some d) m true h = absurd (cc ((h.0 refl).0))
plain_is (Some d) m false h = refl

elem_behind : (b : Tree) (e : elem.Elem) → simplify_once_after b (child_tree (variants.Elem e)) ≡ b ⊕ simplified_elem (elem.out-Elem e).display (optional_meta (elem.out-Elem e).meta) (tree_inside e) (simplify_once (tree_inside e))
elem_behind b e = ap (simplify_once_after b) (elem_child_tree e ∙ elem_tree_out e)

-- copies of the children of a plain element
pub inside_put : (xs ys : List ElemChild) (e : elem.Elem) (copies : ElemChildren) → is_plain (elem.out-Elem e).display (optional_meta (elem.out-Elem e).meta) ≡ true → ys ≡ xs ++ copies.0.items → tokens copies ≡ tokens (elem.out-Elem e).children → row ys ≡ simplify_once_after (row xs) (child_tree (variants.Elem e))
inside_put xs ys e copies p h k =
    ap row h ∙ row-append xs copies.0.items ∙ ap (λ t. row xs ⊕ t) (sym (tree_out copies) ∙ same_children copies (elem.out-Elem e).children k)
    ∙ sym (elem_behind (row xs) e ∙ ap (λ t. row xs ⊕ t) (stands_for-inside _ _ (tree_inside e) (simplify_once (tree_inside e)) p))

-- any other element, with a round inside
pub elem_put : (xs ys : List ElemChild) (e new : elem.Elem) → is_plain (elem.out-Elem e).display (optional_meta (elem.out-Elem e).meta) ≡ false → ys ≡ xs ++ variants.Elem new ∷ [] → elem_tree new ≡ with_inside e (simplify_once (tree_inside e)) → row ys ≡ simplify_once_after (row xs) (child_tree (variants.Elem e))
elem_put xs ys e new p h k =
    ap row h ∙ row-append xs (variants.Elem new ∷ []) ∙ ap (λ t. row xs ⊕ t) (⊕-nothing (child_tree (variants.Elem new)) ∙ elem_child_tree new ∙ k)
    ∙ sym (elem_behind (row xs) e ∙ ap (λ t. row xs ⊕ t) (stands_for-itself _ _ (tree_inside e) (simplify_once (tree_inside e)) p))

-- after the last child
pub all_put : (b : Tree) (ks : List ElemChild) (i : ℕ) (r : Tree) → length ks ≤ i → simplify_once_after b (row (drop i ks)) ≡ r → b ≡ r
all_put b ks i r h e = ap (λ l. simplify_once_after b (row l)) (sym (drop_of_length-le ks h)) ∙ e

-- ---- the properties of a round

-- children and the children after a round: the same styled value; equal if normal, else fewer nodes
pub record Rounded (old new : Tree) : Type 0 where
  pub kept : styled_value new ≡ styled_value old
  pub normal : (new ≡ old) ↔ IsTrue (is_normal old)
  pub fewer : OnFalse (is_normal old) (node_count new < node_count old)

no_fewer : (t u : Tree) → u ≡ t → node_count u < node_count t → ⊥
no_fewer t u e h = let n : node_count u ≡ node_count t = ap node_count e in omega (arith, n, h)

unchanged_or_fewer : (t : Tree) (n : Bool) → is_normal t ≡ n → ((simplify_once t ≡ t) ↔ IsTrue n) × OnFalse n (node_count (simplify_once t) < node_count t)
unchanged_or_fewer t true h = ((λ e. refl, λ e. normal_unchanged t h), tt)
unchanged_or_fewer t false h = ((λ e. absurd (no_fewer t (simplify_once t) e (fewer t h)), λ e. absurd (cc e)), fewer t h)

rounded : (t : Tree) → Rounded t (simplify_once t)
rounded t = let told = unchanged_or_fewer t (is_normal t) refl in record { kept = styled_kept t; normal = told.0; fewer = told.1 }

pub is_rounded : (t u : Tree) → u ≡ simplify_once t → Rounded t u
is_rounded t u h = subst (λ v. Rounded t v) (sym h) (rounded t)

-- an element and the element with a round inside
pub record RoundedInside (e new : elem.Elem) : Type 0 where
  pub round : elem_tree new ≡ with_inside e (simplify_once (tree_inside e))
  pub kept : styled_value (elem_tree new) ≡ styled_value (elem_tree e)
  pub normal : (elem_tree new ≡ elem_tree e) ↔ IsTrue (is_normal (tree_inside e))
  pub fewer : OnFalse (is_normal (tree_inside e)) (node_count (elem_tree new) < node_count (elem_tree e))

around_same : (d : Option Display) (m : Option Meta) (t u : Tree) → element_then d m t empty_tree ≡ element_then d m u empty_tree → t ≡ u
around_same d m t u h = cc h

fewer_inside : (d : Option Display) (m : Option Meta) (t u : Tree) (n : Bool) → OnFalse n (node_count u < node_count t) → OnFalse n (node_count (element_then d m u empty_tree) < node_count (element_then d m t empty_tree))
fewer_inside d m t u true h = tt
fewer_inside d m t u false h = omega (arith, h)

rounded_around : (d : Option Display) (m : Option Meta) (t u : Tree) → Rounded t u → (styled_value (element_then d m u empty_tree) ≡ styled_value (element_then d m t empty_tree)) × ((element_then d m u empty_tree ≡ element_then d m t empty_tree) ↔ IsTrue (is_normal t)) × OnFalse (is_normal t) (node_count (element_then d m u empty_tree) < node_count (element_then d m t empty_tree))
rounded_around d m t u r = (
  ap (λ l. (if is_plain d m then l else elem_around d m l) ++ []) r.kept,
  (λ h. r.normal.0 (around_same d m u t h), λ h. ap (λ v. element_then d m v empty_tree) (r.normal.1 h)),
  fewer_inside d m t u (is_normal t) r.fewer,
)

pub elem_rounded : (e new : elem.Elem) → (elem.out-Elem new).display ≡ (elem.out-Elem e).display → optional_meta (elem.out-Elem new).meta ≡ optional_meta (elem.out-Elem e).meta → tree_inside new ≡ simplify_once (tree_inside e) → RoundedInside e new
elem_rounded e new d m h =
    let made : elem_tree new ≡ with_inside e (simplify_once (tree_inside e)) = elem_tree_out new ∙ (λ i. element_then (d i) (m i) (h i) empty_tree) in
    let old : elem_tree e ≡ with_inside e (tree_inside e) = elem_tree_out e in
    let told = rounded_around (elem.out-Elem e).display (optional_meta (elem.out-Elem e).meta) (tree_inside e) (simplify_once (tree_inside e)) (rounded (tree_inside e)) in
    record {
      round = made;
      kept = ap styled_value made ∙ told.0 ∙ sym (ap styled_value old);
      normal = (λ x. told.1.0 (sym made ∙ x ∙ old), λ x. made ∙ told.1.1 x ∙ sym old);
      fewer = subst (λ v. OnFalse (is_normal (tree_inside e)) (node_count v < node_count (elem_tree e))) (sym made) (subst (λ v. OnFalse (is_normal (tree_inside e)) (node_count (with_inside e (simplify_once (tree_inside e))) < node_count v)) (sym old) told.2);
    }
