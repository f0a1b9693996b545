-- One pass gives the normal form.
use Rattle.std.proofs.Common.{◌≡◌, ℕ, zero, suc, true, false, not, ◌&&◌, cond, List, [], ◌∷◌, ◌++◌, ◌≤◌, length, drop, refl, sym, ap, ◌∙◌, drop_of_length-le}
use Rattle.std.specs.Prelude.{Option}
use Rattle.csl_elements.specs.declared.formatting.Display.{Display}
use Rattle.csl_tree.specs.declared.formatting.Formatting.{Formatting}
use Rattle.csl_tree.specs.declared.elem.ElemChild.{ElemChild}
use Rattle.csl_tree.specs.declared.elem.ElemChild.TheVariants as variants
use Rattle.csl_tree.specs.declared.elem.Elem as elem
use Rattle.csl_tree.specs.Formatting.{same_formatting}
use Rattle.csl_tree.specs.Tokens.{Meta, text, optional_meta}
use Rattle.csl_tree.specs.Content.{◌++>◌}
use Rattle.csl_tree.specs.Tree.{Tree, empty_tree, text_then, leaf_then, element_then, ◌⊕◌, row, child_tree, elem_tree, tokens_of}
use Rattle.csl_tree.specs.Simplify.{is_plain, with_text, simplified_elem, simplify_once_after, simplify_once, simplify_fully_after, tree_inside, with_inside, begins_with, is_normal, node_count, simplify_times, normal_form}
use Rattle.csl_tree.proofs.Joins.{same_formatting-is, same_formatting-refl, join_assoc}
use Rattle.csl_tree.proofs.TreeTokens.{elem_tree_out, tokens_tell}
use Rattle.csl_tree.proofs.RoundSteps.{tokens_of-with_text, row-append, elem_child_tree}
use Rattle.csl_tree.proofs.Rounds.{⊕-nothing, normal_unchanged}
use Rattle.csl_tree.proofs.NormalForms.{left, right, not_true, ends_normal}

-- a normal tree with the normal form of an element after it
abbrev elem_after : Tree → Option Display → Option Meta → Tree → Tree
elem_after b d m inside = cond (is_plain d m) (simplify_fully_after b inside) (b ⊕ element_then d m (simplify_fully_after empty_tree inside) empty_tree)

-- ---- a pass over two trees in a row, and over a text at the end

pass-⊕ : (b t u : Tree) → simplify_fully_after b (t ⊕ u) ≡ simplify_fully_after (simplify_fully_after b t) u
pass-⊕ b empty_tree u = refl
pass-⊕ b (text_then bs f t) u = pass-⊕ (with_text b bs f) t u
pass-⊕ b (leaf_then l t) u = pass-⊕ (b ⊕ leaf_then l empty_tree) t u
pass-⊕ b (element_then d m inside t) u = pass-⊕ (elem_after b d m inside) t u

one_text : (cs bs : List ℕ) (f : Formatting) → text (cs ++ bs) f ∷ [] ≡ (text cs f ∷ []) ++> text bs f ∷ []
one_text cs bs f = sym (ap (λ s. cond s (text (cs ++ bs) f ∷ []) (text cs f ∷ text bs f ∷ [])) (same_formatting-refl f))

-- two texts of one formatting join as one
text_twice : (t : Tree) (cs bs : List ℕ) (f : Formatting) → with_text t (cs ++ bs) f ≡ with_text (with_text t cs f) bs f
text_twice t cs bs f =
    tokens_tell (with_text t (cs ++ bs) f) (with_text (with_text t cs f) bs f) (
    tokens_of-with_text t (cs ++ bs) f ∙ ap (λ l. tokens_of t ++> l) (one_text cs bs f) ∙ sym (join_assoc (tokens_of t) (text cs f ∷ []) (text bs f ∷ []))
    ∙ sym (tokens_of-with_text (with_text t cs f) bs f ∙ ap (λ l. l ++> text bs f ∷ []) (tokens_of-with_text t cs f))
    )

pass-with_text : (b t : Tree) (bs : List ℕ) (f : Formatting) → simplify_fully_after b (with_text t bs f) ≡ with_text (simplify_fully_after b t) bs f
pass-with_text b empty_tree bs f = refl
pass-with_text b (text_then cs g empty_tree) bs f =
    elim (same_formatting g f) as (λ s. same_formatting g f ≡ s → simplify_fully_after b (cond s (text_then (cs ++ bs) g empty_tree) (text_then cs g (text_then bs f empty_tree))) ≡ with_text (with_text b cs g) bs f) [
      | true ↦ λ h. text_twice b cs bs g ∙ ap (with_text (with_text b cs g) bs) (same_formatting-is g f h)
      | false ↦ λ h. refl
    ] refl
pass-with_text b (text_then cs g (text_then ds h t)) bs f = pass-with_text (with_text b cs g) (text_then ds h t) bs f
pass-with_text b (text_then cs g (leaf_then l t)) bs f = pass-with_text (with_text b cs g) (leaf_then l t) bs f
pass-with_text b (text_then cs g (element_then d m inside t)) bs f = pass-with_text (with_text b cs g) (element_then d m inside t) bs f
pass-with_text b (leaf_then l t) bs f = pass-with_text (b ⊕ leaf_then l empty_tree) t bs f
pass-with_text b (element_then d m inside t) bs f = pass-with_text (elem_after b d m inside) t bs f

-- ---- a round before a pass changes nothing

pass-simplified : (b : Tree) (d : Option Display) (m : Option Meta) (inside rounded : Tree) → simplify_fully_after empty_tree rounded ≡ simplify_fully_after empty_tree inside → simplify_fully_after b (simplified_elem d m inside rounded) ≡ elem_after b d m inside
pass-simplified b d m inside rounded h =
    elim (is_plain d m) as (λ p. is_plain d m ≡ p → simplify_fully_after b (cond p inside (element_then d m rounded empty_tree)) ≡ cond p (simplify_fully_after b inside) (b ⊕ element_then d m (simplify_fully_after empty_tree inside) empty_tree)) [
      | true ↦ λ e. refl
      | false ↦ λ e. ap (λ p. cond p (simplify_fully_after b rounded) (b ⊕ element_then d m (simplify_fully_after empty_tree rounded) empty_tree)) e ∙ ap (λ u. b ⊕ element_then d m u empty_tree) h
    ] refl

pass-round : (b c t : Tree) → simplify_fully_after b (simplify_once_after c t) ≡ simplify_fully_after (simplify_fully_after b c) t
pass-round b c empty_tree = refl
pass-round b c (text_then bs f t) = pass-round b (with_text c bs f) t ∙ ap (λ u. simplify_fully_after u t) (pass-with_text b c bs f)
pass-round b c (leaf_then l t) = pass-round b (c ⊕ leaf_then l empty_tree) t ∙ ap (λ u. simplify_fully_after u t) (pass-⊕ b c (leaf_then l empty_tree))
pass-round b c (element_then d m inside t) =
    let rounded = simplify_once_after empty_tree inside in
    pass-round b (c ⊕ simplified_elem d m inside rounded) t
    ∙ ap (λ u. simplify_fully_after u t) (pass-⊕ b c (simplified_elem d m inside rounded) ∙ pass-simplified (simplify_fully_after b c) d m inside rounded (pass-round empty_tree empty_tree inside))

pass-rounds : (n : ℕ) (t : Tree) → simplify_fully_after empty_tree (simplify_times n t) ≡ simplify_fully_after empty_tree t
pass-rounds zero t = refl
pass-rounds (suc n) t = pass-rounds n (simplify_once t) ∙ pass-round empty_tree empty_tree t

-- ---- on a normal tree a pass is a round

pass-normal : (b t : Tree) → is_normal t ≡ true → simplify_fully_after b t ≡ simplify_once_after b t
pass-normal b empty_tree h = refl
pass-normal b (text_then bs f t) h = pass-normal (with_text b bs f) t (right (not (begins_with f t)) (is_normal t) h)
pass-normal b (leaf_then l t) h = pass-normal (b ⊕ leaf_then l empty_tree) t h
pass-normal b (element_then d m inside t) h =
    let others : (is_normal inside && is_normal t) ≡ true = right (not (is_plain d m)) (is_normal inside && is_normal t) h in
    let unlike : is_plain d m ≡ false = not_true (is_plain d m) (left (not (is_plain d m)) (is_normal inside && is_normal t) h) in
    let within : simplify_fully_after empty_tree inside ≡ simplify_once inside = pass-normal empty_tree inside (left (is_normal inside) (is_normal t) others) in
    ap (λ p. simplify_fully_after (cond p (simplify_fully_after b inside) (b ⊕ element_then d m (simplify_fully_after empty_tree inside) empty_tree)) t) unlike
    ∙ ap (λ u. simplify_fully_after (b ⊕ element_then d m u empty_tree) t) within
    ∙ pass-normal (b ⊕ element_then d m (simplify_once inside) empty_tree) t (right (is_normal inside) (is_normal t) others)
    ∙ sym (ap (λ p. simplify_once_after (b ⊕ cond p inside (element_then d m (simplify_once inside) empty_tree)) t) unlike)

pub one_pass : (t : Tree) → simplify_fully_after empty_tree t ≡ normal_form t
one_pass t = sym (pass-rounds (node_count t) t) ∙ pass-normal empty_tree (normal_form t) (ends_normal t) ∙ normal_unchanged (normal_form t) (ends_normal t)

-- ---- a pass step by step

-- an element that is not plain
pub pass-elem : (xs ys : List ElemChild) (e new : elem.Elem) → is_plain (elem.out-Elem e).display (optional_meta (elem.out-Elem e).meta) ≡ false → ys ≡ xs ++ variants.Elem new ∷ [] → elem_tree new ≡ with_inside e (simplify_fully_after empty_tree (tree_inside e)) → row ys ≡ simplify_fully_after (row xs) (child_tree (variants.Elem e))
pass-elem xs ys e new p h k =
    ap row h ∙ row-append xs (variants.Elem new ∷ []) ∙ ap (λ t. row xs ⊕ t) (⊕-nothing (child_tree (variants.Elem new)) ∙ elem_child_tree new ∙ k)
    ∙ sym (ap (simplify_fully_after (row xs)) (elem_child_tree e ∙ elem_tree_out e) ∙ ap (λ q. cond q (simplify_fully_after (row xs) (tree_inside e)) (row xs ⊕ with_inside e (simplify_fully_after empty_tree (tree_inside e)))) p)

-- after the last child
pub pass-end : (b : Tree) (ks : List ElemChild) (i : ℕ) (r : Tree) → length ks ≤ i → simplify_fully_after b (row (drop i ks)) ≡ r → b ≡ r
pass-end b ks i r h e = ap (λ l. simplify_fully_after b (row l)) (sym (drop_of_length-le ks h)) ∙ e
