-- Simplification of a tree. CSL has no section on this.
-- - An element is *plain* if it has neither display nor meta.
-- - *One round* replaces a plain element by its children, unchanged, and does a round inside any
--   other element. Each text that was itself a child then joins a text of equal formatting before
--   it, even one from a plain element.
-- - The *styled value* is each byte of the texts with its formatting, the other leaves, and the
--   elements that are not plain around their own styled value.
-- - A tree is *normal* if, at every depth, no element is plain and no neighbouring texts have equal
--   formatting.
-- - The *normal form* of a tree with `n` nodes, at all depths, is the tree after `n` rounds.
-- `simplify_fully_after` is internal: only the contracts of private functions cite it.
use Rattle.std.specs.Prelude.{ℕ, zero, suc, ◌+◌, Bool, true, false, not, ◌&&◌, List, [], ◌∷◌, ◌++◌, map, Option, Some, None, if◌then◌else◌}
use Rattle.csl_elements.specs.declared.formatting.Display.{Display}
use Rattle.csl_tree.specs.declared.formatting.Formatting.{Formatting}
use Rattle.csl_tree.specs.Formatting.{same_formatting}
use Rattle.csl_tree.specs.declared.elem.Elem as elem
use Rattle.csl_tree.specs.Tokens.{Meta, optional_meta, Token, text, solid, elem_around}
use Rattle.csl_tree.specs.Tree.{Tree, empty_tree, text_then, leaf_then, element_then, ◌⊕◌, tree, leaf_token}

-- an element is plain if it has neither display nor meta
abbrev pub is_plain : Option Display → Option Meta → Bool
is_plain None None = true
is_plain None (Some m) = false
is_plain (Some d) m = false

abbrev pub is_empty_tree : Tree → Bool
is_empty_tree empty_tree = true
is_empty_tree (text_then bs f t) = false
is_empty_tree (leaf_then l t) = false
is_empty_tree (element_then d m inside t) = false

-- a tree with a text appended, which joins a last text of equal formatting
abbrev pub with_text : Tree → List ℕ → Formatting → Tree
with_text empty_tree bs f = text_then bs f empty_tree
with_text (text_then cs g t) bs f = if is_empty_tree t && same_formatting g f then text_then (cs ++ bs) g empty_tree else text_then cs g (with_text t bs f)
with_text (leaf_then l t) bs f = leaf_then l (with_text t bs f)
with_text (element_then d m inside t) bs f = element_then d m inside (with_text t bs f)

-- an element after a round: the tree inside if the element is plain, else the element around that
-- tree after a round
abbrev pub simplified_elem : Option Display → Option Meta → Tree → Tree → Tree
simplified_elem d m inside rounded = if is_plain d m then inside else element_then d m rounded empty_tree

-- One round: each element is replaced (`simplified_elem`), and each child that is a text joins a
-- text of equal formatting before it, even one from a plain element. A text from a plain element
-- joins none.
abbrev pub simplify_once_after : Tree → Tree → Tree
simplify_once_after before empty_tree = before
simplify_once_after before (text_then bs f t) = simplify_once_after (with_text before bs f) t
simplify_once_after before (leaf_then l t) = simplify_once_after (before ⊕ leaf_then l empty_tree) t
simplify_once_after before (element_then d m inside t) = simplify_once_after (before ⊕ simplified_elem d m inside (simplify_once_after empty_tree inside)) t

abbrev pub simplify_once : Tree → Tree
simplify_once t = simplify_once_after empty_tree t

-- the tree inside an element, and the element around another tree
abbrev pub tree_inside : elem.Elem → Tree
tree_inside e = tree (elem.out-Elem e).children

abbrev pub with_inside : elem.Elem → Tree → Tree
with_inside e t = element_then (elem.out-Elem e).display (optional_meta (elem.out-Elem e).meta) t empty_tree

-- the bytes of a text, each in its formatting
abbrev pub styled_bytes : List ℕ → Formatting → List Token
styled_bytes bs f = map (λ b. text (b ∷ []) f) bs

-- The styled value: each byte of a text with its formatting, the other leaves, and the elements
-- that are not plain around their own styled value. It leaves out the plain elements and how the
-- texts are split.
abbrev pub styled_value : Tree → List Token
styled_value empty_tree = []
styled_value (text_then bs f t) = styled_bytes bs f ++ styled_value t
styled_value (leaf_then l t) = solid (leaf_token l) ∷ styled_value t
styled_value (element_then d m inside t) = (if is_plain d m then styled_value inside else elem_around d m (styled_value inside)) ++ styled_value t

abbrev pub begins_with : Formatting → Tree → Bool
begins_with f empty_tree = false
begins_with f (text_then bs g t) = same_formatting f g
begins_with f (leaf_then l t) = false
begins_with f (element_then d m inside t) = false

-- normal: at every depth, no element is plain and no neighbouring texts have equal formatting
abbrev pub is_normal : Tree → Bool
is_normal empty_tree = true
is_normal (text_then bs f t) = not (begins_with f t) && is_normal t
is_normal (leaf_then l t) = is_normal t
is_normal (element_then d m inside t) = not (is_plain d m) && (is_normal inside && is_normal t)

-- the number of nodes at all depths
abbrev pub node_count : Tree → ℕ
node_count empty_tree = 0
node_count (text_then bs f t) = 1 + node_count t
node_count (leaf_then l t) = 1 + node_count t
node_count (element_then d m inside t) = 1 + (node_count inside + node_count t)

-- a tree after n rounds
abbrev pub simplify_times : ℕ → Tree → Tree
simplify_times zero t = t
simplify_times (suc n) t = simplify_times n (simplify_once t)

-- the normal form: one round for each node of the tree
abbrev pub normal_form : Tree → Tree
normal_form t = simplify_times (node_count t) t

abbrev pub is_nonempty_text : List ℕ → Bool
is_nonempty_text [] = false
is_nonempty_text (b ∷ bs) = true

-- no text is empty, at any depth
abbrev pub has_no_empty_text : Tree → Bool
has_no_empty_text empty_tree = true
has_no_empty_text (text_then bs f t) = is_nonempty_text bs && has_no_empty_text t
has_no_empty_text (leaf_then l t) = has_no_empty_text t
has_no_empty_text (element_then d m inside t) = has_no_empty_text inside && has_no_empty_text t

-- The normal form of two trees in a row, if the first is normal. Unlike in a round, a plain element
-- is replaced by its children's normal form, so texts from it join texts before and after it; any
-- other element is put around the normal form of its children.
abbrev pub simplify_fully_after : Tree → Tree → Tree
simplify_fully_after before empty_tree = before
simplify_fully_after before (text_then bs f t) = simplify_fully_after (with_text before bs f) t
simplify_fully_after before (leaf_then l t) = simplify_fully_after (before ⊕ leaf_then l empty_tree) t
simplify_fully_after before (element_then d m inside t) = simplify_fully_after (if is_plain d m then simplify_fully_after before inside else before ⊕ element_then d m (simplify_fully_after empty_tree inside) empty_tree) t
