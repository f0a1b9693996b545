-- A place in a tree is a path of indices. When a mutable reference to a place ends, the tree has
-- the last value written there, and is otherwise unchanged. The path to the *end* of the tree goes
-- down the last child as long as that is an element.
-- `layer_text`, `text_of_child`, `first_of`, `last_path_of_child`, `items_row`, `lends_items`,
-- `lends_children`, `lends_text` and `lends_that_text` are internal: only the contracts of private
-- functions cite them.
use Rattle.std.specs.Prelude.{ℕ, ◌-◌, List, [], ◌∷◌, Option, Some, None, length, unwrap_or, slice_index_or}
use Rattle.std.specs.Vec.{with_item}
use Rattle.std.specs.Borrow.{Fml, MutBor, Lends, LendsIf}
use Rattle.std.specs.declared.vec.Vec.{Vec}
use Rattle.std.specs.declared.alloc.Global.{Global}
use denote.RattleType.{RattleType}
use Rattle.std.specs.contracts.alloc.Global as global
use Rattle.std.specs.contracts.vec.Vec as vec
use Rattle.std.specs.contracts.impls.GlobalAllocator.TheImpl.{ghosts}
use Rattle.csl_tree.specs.Formatting.{default_formatting}
use Rattle.csl_tree.specs.declared.formatting.Formatted.{Formatted}
use Rattle.csl_tree.specs.declared.elem.ElemChild.{ElemChild}
use Rattle.csl_tree.specs.declared.elem.ElemChild.TheOpen.{ElemChild-F, Elem-F, ElemChildren-F, Text, Elem, Markup, Link, Transparent}
use Rattle.csl_tree.specs.declared.elem.ElemChild.TheViews.{out-ElemChild}
use Rattle.csl_tree.specs.declared.elem.ElemChild.TheFolds.{fold-ElemChild, fold-ElemChildren}
use Rattle.csl_tree.specs.declared.elem.ElemChild.TheVariants as variants
use Rattle.csl_tree.specs.declared.elem.Elem as elem
use Rattle.csl_tree.specs.declared.elem.ElemChildren.{ElemChildren}
use Rattle.csl_tree.specs.contracts.elem.ElemChildren as children
use Rattle.csl_tree.specs.contracts.elem.ElemChild as child
use Rattle.csl_tree.specs.contracts.formatting.Formatted as formatted

abbrev pub layer_children : ElemChild-F ElemChild elem.Elem ElemChildren → Option ElemChildren
layer_children (Text t) = None
layer_children (Elem e) = Some e.children
layer_children (Markup s) = None
layer_children (Link t u) = None
layer_children (Transparent n f) = None

-- the children of a child, if it is an element
abbrev pub children_of : ElemChild → Option ElemChildren
children_of k = layer_children (out-ElemChild k)

abbrev pub layer_with : ElemChild-F ElemChild elem.Elem ElemChildren → ElemChild → ElemChildren → ElemChild
layer_with (Text t) k w = k
layer_with (Elem e) k w = variants.Elem (record { children = w; display = e.display; meta = e.meta })
layer_with (Markup s) k w = k
layer_with (Link t u) k w = k
layer_with (Transparent n f) k w = k

-- a child with other children, if it is an element
abbrev pub with_children : ElemChild → ElemChildren → ElemChild
with_children k w = layer_with (out-ElemChild k) k w

abbrev pub layer_text : ElemChild-F ElemChild elem.Elem ElemChildren → Option Formatted
layer_text (Text t) = Some t
layer_text (Elem e) = None
layer_text (Markup s) = None
layer_text (Link t u) = None
layer_text (Transparent n f) = None

-- the text of a child, if it is a text
abbrev pub text_of_child : ElemChild → Option Formatted
text_of_child k = layer_text (out-ElemChild k)

-- the child at an index beyond the last one
abbrev pub no_child : ElemChild
no_child = variants.Transparent 0 default_formatting

-- one child, and the tree with another in its place
abbrev pub child_at : ElemChildren → ℕ → ElemChild
child_at c i = slice_index_or c.0.items i no_child

abbrev pub put_child : ElemChildren → ℕ → ElemChild → ElemChildren
put_child c i k = record { 0 = with_item c.0 i k }

-- the children of the child at an index
abbrev pub descend : ElemChildren → ℕ → ElemChildren
descend c i = unwrap_or (children_of (child_at c i)) c

-- the children at the end of a path, and the tree with others there
abbrev pub get_at : List ℕ → ElemChildren → ElemChildren
get_at [] c = c
get_at (i ∷ p) c = get_at p (descend c i)

abbrev pub put_at : List ℕ → ElemChildren → ElemChildren → ElemChildren
put_at [] c w = w
put_at (i ∷ p) c w = put_child c i (with_children (child_at c i) (put_at p (descend c i) w))

-- the first index of a path
abbrev pub first_of : List ℕ → Option ℕ
first_of [] = None
first_of (i ∷ p) = Some i

-- the index of the last child
abbrev pub last : ElemChildren → ℕ
last c = length c.0.items - 1

-- the path to the end of the tree: down the last child as long as that is an element
abbrev pub child_path : ElemChild-F (Option (List ℕ)) (List ℕ) (List ℕ) → Option (List ℕ)
child_path (Text t) = None
child_path (Elem p) = Some p
child_path (Markup s) = None
child_path (Link t u) = None
child_path (Transparent n f) = None

abbrev pub elem_path : Elem-F (Option (List ℕ)) (List ℕ) (List ℕ) → List ℕ
elem_path e = e.children

abbrev pub before_path : ℕ → Option (List ℕ) → List ℕ
before_path i None = []
before_path i (Some p) = i ∷ p

abbrev pub last_step : List (Option (List ℕ)) → List ℕ
last_step xs = before_path (length xs - 1) (slice_index_or xs (length xs - 1) None)

abbrev pub children_path : ElemChildren-F (Option (List ℕ)) (List ℕ) (List ℕ) → List ℕ
children_path c = last_step c.0.items

abbrev pub last_path : ElemChildren → List ℕ
last_path = fold-ElemChildren (Option (List ℕ)) (List ℕ) (List ℕ) child_path elem_path children_path

abbrev pub last_path_of_child : ElemChild → Option (List ℕ)
last_path_of_child = fold-ElemChild (Option (List ℕ)) (List ℕ) (List ℕ) child_path elem_path children_path

-- the tree with another last child at its end, and with another last text
abbrev pub put_final : ElemChildren → ElemChild → ElemChildren
put_final c k = put_at (last_path c) c (put_child (get_at (last_path c) c) (last (get_at (last_path c) c)) k)

abbrev pub put_last_text : ElemChildren → Formatted → ElemChildren
put_last_text c t = put_final c (variants.Text t)

-- the type of a list of children, for a mutable reference to one
abbrev pub items_row : RattleType
items_row = vec.the_row child.the_row global.the_row ghosts

abbrev pub lends_items : MutBor ElemChildren → MutBor (Vec ElemChild Global) → Fml
lends_items s r = Lends children.the_row items_row s r (λ v. record { 0 = v })

abbrev pub lends_children : MutBor ElemChild → MutBor ElemChildren → Fml
lends_children s r = Lends child.the_row children.the_row s r (with_children s.now)

abbrev pub lends_text : MutBor ElemChild → MutBor Formatted → Fml
lends_text s r = Lends child.the_row formatted.the_row s r (λ t. variants.Text t)

abbrev pub lends_last_text : MutBor ElemChildren → Option (MutBor Formatted) → Fml
lends_last_text s r = LendsIf children.the_row formatted.the_row s r (put_last_text s.now) s.now

abbrev pub lends_that_text : MutBor ElemChildren → MutBor Formatted → Fml
lends_that_text s r = Lends children.the_row formatted.the_row s r (put_last_text s.now)
