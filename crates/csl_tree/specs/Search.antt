-- Searches in a tree. *Preorder* is an element, then the elements inside it, then those to its
-- right. A search returns the first element in preorder that passes its test. The *last text* is
-- the last child if that is a text, the last text inside it if it is an element, else none.
-- `remove_any_meta` removes the tokens of the first element with a meta. The tokens before and
-- after it stay (`MetaRemoved`).
-- `child_preorder`, `layer_elem`, `elem_of`, `last_text_of`, `layer_has_meta` and `child_has_meta`
-- are internal: only the contracts of private functions cite them.
use Rattle.std.specs.Prelude.{◌≡◌, ◌⊎◌, Bool, true, false, List, [], ◌∷◌, ◌++◌, Option, Some, None, is_some, flat_map}
use Rattle.std.specs.Borrow.{Bor}
use Rattle.std.specs.List.{list_any}
use Rattle.csl_tree.specs.Tokens.{Meta, meta_of, optional_meta, Token, text, solid, markup, link, transparent, elem_start, elem_end}
use Rattle.csl_tree.specs.declared.formatting.Formatted.{Formatted}
use Rattle.csl_tree.specs.declared.elem.ElemMeta.{ElemMeta}
use Rattle.csl_tree.specs.declared.elem.ElemMeta.TheVariants as meta
use Rattle.csl_tree.specs.declared.elem.ElemChild.{ElemChild}
use Rattle.csl_tree.specs.declared.elem.ElemChild.TheOpen.{ElemChild-F, Elem-F, ElemChildren-F, Text, Elem, Markup, Link, Transparent}
use Rattle.csl_tree.specs.declared.elem.ElemChild.TheViews.{out-ElemChild}
use Rattle.csl_tree.specs.declared.elem.ElemChild.TheFolds.{fold-ElemChild, fold-ElemChildren, para-ElemChild, para-ElemChildren}
use Rattle.csl_tree.specs.declared.elem.ElemChild.TheVariants as variants
use Rattle.csl_tree.specs.declared.elem.Elem as elem
use Rattle.csl_tree.specs.declared.elem.ElemChildren.{ElemChildren}

-- One level of a tree, each part with its own preorder. A child that is an element gives the
-- element and then the elements inside it.
abbrev pub Walk : Type 0
Walk = List elem.Elem

abbrev pub child_walk : ElemChild-F (ElemChild × Walk) (elem.Elem × Walk) (ElemChildren × Walk) → Walk
child_walk (Text t) = []
child_walk (Elem e) = e.0 ∷ e.1
child_walk (Markup s) = []
child_walk (Link t url) = []
child_walk (Transparent n f) = []

abbrev pub elem_walk : Elem-F (ElemChild × Walk) (elem.Elem × Walk) (ElemChildren × Walk) → Walk
elem_walk e = e.children.1

abbrev pub children_walk : ElemChildren-F (ElemChild × Walk) (elem.Elem × Walk) (ElemChildren × Walk) → Walk
children_walk c = flat_map (λ k. k.1) c.0.items

-- the elements of a tree in preorder
abbrev pub preorder : ElemChildren → List elem.Elem
preorder = para-ElemChildren Walk Walk Walk child_walk elem_walk children_walk

-- the elements of one child in preorder
abbrev pub child_preorder : ElemChild → List elem.Elem
child_preorder = para-ElemChild Walk Walk Walk child_walk elem_walk children_walk

-- the value is the first item of the list for which P holds, or None
abbrev pub IsFirst : {A : Type 0} → (A → Type 0) → List A → Option A → Type 0
IsFirst P [] o = o ≡ None
IsFirst P (x ∷ xs) o = (P x × (o ≡ Some x)) ⊎ ((P x → ⊥) × IsFirst P xs o)

-- a closure returns the result of the test p for the element
abbrev pub AnswersBy : (Bor elem.Elem → Bool → Type 0) → (elem.Elem → Bool) → Type 0
AnswersBy post p = (e : Bor elem.Elem) (r : Bool) → post e r → r ≡ p e.now

abbrev pub layer_elem : ElemChild-F ElemChild elem.Elem ElemChildren → Option elem.Elem
layer_elem (Text t) = None
layer_elem (Elem e) = Some e
layer_elem (Markup s) = None
layer_elem (Link t url) = None
layer_elem (Transparent n f) = None

-- a child as an element, if it is one
abbrev pub elem_of : ElemChild → Option elem.Elem
elem_of k = layer_elem (out-ElemChild k)

-- an element as a child
abbrev pub as_child : elem.Elem → ElemChild
as_child = variants.Elem

-- the meta of an element
abbrev pub elem_meta : elem.Elem → Option Meta
elem_meta e = optional_meta (elem.out-Elem e).meta

-- the element has this meta
abbrev pub IsMadeBy : ElemMeta → elem.Elem → Type 0
IsMadeBy m e = elem_meta e ≡ Some (meta_of m)

abbrev pub is_names_meta : Option ElemMeta → Bool
is_names_meta None = false
is_names_meta (Some (meta.Names names)) = true
is_names_meta (Some meta.Date) = false
is_names_meta (Some meta.Text) = false
is_names_meta (Some meta.Number) = false
is_names_meta (Some meta.Label) = false
is_names_meta (Some meta.CitationNumber) = false
is_names_meta (Some (meta.Name v n)) = false
is_names_meta (Some (meta.Entry n)) = false
is_names_meta (Some meta.CitationLabel) = false

-- the element is that of a `cs:names`
abbrev pub is_names : elem.Elem → Bool
is_names e = is_names_meta (elem.out-Elem e).meta

-- the element has a meta
abbrev pub has_meta : elem.Elem → Bool
has_meta e = is_some (elem.out-Elem e).meta

-- Last text: the last child if that is a text, the last text inside it if it is an element, else
-- none.
abbrev pub last_of : List (Option Formatted) → Option Formatted
last_of [] = None
last_of (t ∷ []) = t
last_of (t ∷ u ∷ ts) = last_of (u ∷ ts)

abbrev pub child_last : ElemChild-F (Option Formatted) (Option Formatted) (Option Formatted) → Option Formatted
child_last (Text t) = Some t
child_last (Elem inside) = inside
child_last (Markup s) = None
child_last (Link t url) = None
child_last (Transparent n f) = None

abbrev pub elem_last : Elem-F (Option Formatted) (Option Formatted) (Option Formatted) → Option Formatted
elem_last e = e.children

abbrev pub children_last : ElemChildren-F (Option Formatted) (Option Formatted) (Option Formatted) → Option Formatted
children_last c = last_of c.0.items

abbrev pub last_text : ElemChildren → Option Formatted
last_text = fold-ElemChildren (Option Formatted) (Option Formatted) (Option Formatted) child_last elem_last children_last

abbrev pub last_text_of : ElemChild → Option Formatted
last_text_of = fold-ElemChild (Option Formatted) (Option Formatted) (Option Formatted) child_last elem_last children_last

abbrev pub layer_has_meta : ElemChild-F ElemChild elem.Elem ElemChildren → Bool
layer_has_meta (Text t) = false
layer_has_meta (Elem e) = has_meta e
layer_has_meta (Markup s) = false
layer_has_meta (Link t url) = false
layer_has_meta (Transparent n f) = false

-- the child is an element with a meta
abbrev pub child_has_meta : ElemChild → Bool
child_has_meta k = layer_has_meta (out-ElemChild k)

-- the token opens an element with a meta
abbrev pub opens_meta : Token → Bool
opens_meta (text bs f) = false
opens_meta (solid (markup bs)) = false
opens_meta (solid (link bs f url)) = false
opens_meta (solid (transparent n f)) = false
opens_meta (solid (elem_start d m)) = is_some m
opens_meta (solid (elem_end d)) = false

-- no element has a meta
abbrev pub HasNoMeta : List Token → Type 0
HasNoMeta ts = list_any opens_meta ts ≡ false

-- `new` is `old` without the tokens `taken`. No element that opens before them has a meta.
pub record MetaRemoved (old taken new : List Token) : Type 0 where
  pub before : List Token
  pub after : List Token
  pub was : old ≡ before ++ (taken ++ after)
  pub is : new ≡ before ++ after
  pub first : HasNoMeta before
