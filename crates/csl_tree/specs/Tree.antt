-- An output tree as nested nodes: texts with their formatting, leaves (markup, links and
-- transparents), and elements around nodes (`tree`). Its tokens are those of the nodes, in order.
-- It leaves out only how texts are stored. CSL has no section on this.
-- `child_tree` and `row` are internal: only the contracts of private functions cite them.
use Rattle.std.specs.Prelude.{ℕ, List, [], ◌∷◌, ◌++◌, map, Option, string_bytes}
use Rattle.csl_elements.specs.declared.formatting.Display.{Display}
use Rattle.csl_tree.specs.declared.formatting.Formatting.{Formatting}
use Rattle.csl_tree.specs.declared.elem.ElemChild.{ElemChild}
use Rattle.csl_tree.specs.declared.elem.ElemChild.TheOpen.{ElemChild-F, Elem-F, ElemChildren-F, Text, Elem, Markup, Link, Transparent}
use Rattle.csl_tree.specs.declared.elem.ElemChild.TheFolds.{fold-ElemChild, fold-Elem, fold-ElemChildren}
use Rattle.csl_tree.specs.declared.elem.Elem as elem
use Rattle.csl_tree.specs.declared.elem.ElemChildren.{ElemChildren}
use Rattle.csl_tree.specs.Tokens as tokens
use Rattle.csl_tree.specs.Tokens.{Meta, Token, Solid, solid, optional_meta, elem_around}

-- a node that is not a text and contains no tree
pub data Leaf : Type 0 where
  markup : List ℕ → Leaf
  link : List ℕ → Formatting → List ℕ → Leaf
  transparent : ℕ → Formatting → Leaf

-- a node and the tree that follows it, or no node
pub data Tree : Type 0 where
  empty_tree : Tree
  text_then : List ℕ → Formatting → Tree → Tree
  leaf_then : Leaf → Tree → Tree
  element_then : Option Display → Option Meta → Tree → Tree → Tree

-- two trees in a row
infixr 65 ◌⊕◌
abbrev pub ◌⊕◌ : Tree → Tree → Tree
empty_tree ⊕ u = u
(text_then bs f t) ⊕ u = text_then bs f (t ⊕ u)
(leaf_then l t) ⊕ u = leaf_then l (t ⊕ u)
(element_then d m inside t) ⊕ u = element_then d m inside (t ⊕ u)

abbrev pub in_row : List Tree → Tree
in_row [] = empty_tree
in_row (t ∷ ts) = t ⊕ in_row ts

-- one level of a tree, with the trees inside
abbrev pub child_level : ElemChild-F Tree Tree Tree → Tree
child_level (Text t) = text_then (string_bytes t.text) t.formatting empty_tree
child_level (Elem inside) = inside
child_level (Markup s) = leaf_then (markup (string_bytes s)) empty_tree
child_level (Link t url) = leaf_then (link (string_bytes t.text) t.formatting (string_bytes url)) empty_tree
child_level (Transparent n f) = leaf_then (transparent n f) empty_tree

abbrev pub elem_level : Elem-F Tree Tree Tree → Tree
elem_level e = element_then e.display (optional_meta e.meta) e.children empty_tree

abbrev pub children_level : ElemChildren-F Tree Tree Tree → Tree
children_level c = in_row c.0.items

abbrev pub child_tree : ElemChild → Tree
child_tree = fold-ElemChild Tree Tree Tree child_level elem_level children_level

abbrev pub elem_tree : elem.Elem → Tree
elem_tree = fold-Elem Tree Tree Tree child_level elem_level children_level

abbrev pub tree : ElemChildren → Tree
tree = fold-ElemChildren Tree Tree Tree child_level elem_level children_level

-- children in a row
abbrev pub row : List ElemChild → Tree
row ks = in_row (map child_tree ks)

-- the tokens of a tree
abbrev pub leaf_token : Leaf → Solid
leaf_token (markup bs) = tokens.markup bs
leaf_token (link bs f url) = tokens.link bs f url
leaf_token (transparent n f) = tokens.transparent n f

abbrev pub tokens_of : Tree → List Token
tokens_of empty_tree = []
tokens_of (text_then bs f t) = tokens.text bs f ∷ tokens_of t
tokens_of (leaf_then l t) = solid (leaf_token l) ∷ tokens_of t
tokens_of (element_then d m inside t) = elem_around d m (tokens_of inside) ++ tokens_of t
