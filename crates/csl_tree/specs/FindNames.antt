-- The place of the first element of a `cs:names`, in preorder, and that element as a mutable
-- reference. When the reference ends, the tree has the last value written through it, and is
-- otherwise unchanged.
-- `find_of_child`, `find_at`, `names_path`, `is_found`, `is_here`, `any_is_here`, `here_index`,
-- `elem_at`, `first_names`, `lends_elem` and `lends_that_names` are internal: only the contracts of
-- private functions cite them.
use Rattle.std.specs.Prelude.{ℕ, ◌+◌, Bool, true, false, List, [], ◌∷◌, Option, Some, None, ◌||◌, if◌then◌else◌}
use Rattle.std.specs.Borrow.{Fml, MutBor, Lends, LendsIf}
use Rattle.csl_tree.specs.Search.{is_names_meta, elem_of}
use Rattle.csl_tree.specs.Places.{child_at, put_child, get_at, put_at}
use Rattle.csl_tree.specs.declared.elem.ElemChild.{ElemChild}
use Rattle.csl_tree.specs.declared.elem.ElemChild.TheOpen.{ElemChild-F, Elem-F, ElemChildren-F, Text, Elem, Markup, Link, Transparent}
use Rattle.csl_tree.specs.declared.elem.ElemChild.TheFolds.{fold-ElemChild, fold-ElemChildren}
use Rattle.csl_tree.specs.declared.elem.ElemChild.TheVariants as variants
use Rattle.csl_tree.specs.declared.elem.Elem as elem
use Rattle.csl_tree.specs.declared.elem.ElemChildren.{ElemChildren}
use Rattle.csl_tree.specs.contracts.elem.ElemChildren as children
use Rattle.csl_tree.specs.contracts.elem.ElemChild as child
use Rattle.csl_tree.specs.contracts.elem.Elem as elem_rows

-- where a child has its first element of a `cs:names`: nowhere, at the child itself, or below it at
-- the end of a path
pub data NamesPosition : Type 0 where
  absent : NamesPosition
  here : NamesPosition
  below : List ℕ → NamesPosition

abbrev pub find_child : ElemChild-F NamesPosition NamesPosition (Option (List ℕ)) → NamesPosition
find_child (Text t) = absent
find_child (Elem r) = r
find_child (Markup s) = absent
find_child (Link t u) = absent
find_child (Transparent n f) = absent

abbrev pub find_inside : Option (List ℕ) → NamesPosition
find_inside None = absent
find_inside (Some p) = below p

abbrev pub find_from : Bool → Option (List ℕ) → NamesPosition
find_from true r = here
find_from false r = find_inside r

abbrev pub find_elem : Elem-F NamesPosition NamesPosition (Option (List ℕ)) → NamesPosition
find_elem e = find_from (is_names_meta e.meta) e.children

-- the path to the element if child `i` has one, else `o`; the last index is the element's own
abbrev pub found_or : ℕ → NamesPosition → Option (List ℕ) → Option (List ℕ)
found_or i absent o = o
found_or i here o = Some (i ∷ [])
found_or i (below p) o = Some (i ∷ p)

abbrev pub first_found : ℕ → List NamesPosition → Option (List ℕ)
first_found i [] = None
first_found i (r ∷ rs) = found_or i r (first_found (i + 1) rs)

abbrev pub find_children : ElemChildren-F NamesPosition NamesPosition (Option (List ℕ)) → Option (List ℕ)
find_children c = first_found 0 c.0.items

-- the path to the first element of a `cs:names`: an index at each level
abbrev pub names_find : ElemChildren → Option (List ℕ)
names_find = fold-ElemChildren NamesPosition NamesPosition (Option (List ℕ)) find_child find_elem find_children

abbrev pub find_of_child : ElemChild → NamesPosition
find_of_child = fold-ElemChild NamesPosition NamesPosition (Option (List ℕ)) find_child find_elem find_children

-- where the child at an index has its first element of a `cs:names`
abbrev pub find_at : ElemChildren → ℕ → NamesPosition
find_at c i = find_of_child (child_at c i)

-- the path without its last index
abbrev pub parent_path : List ℕ → List ℕ
parent_path [] = []
parent_path (i ∷ []) = []
parent_path (i ∷ j ∷ p) = i ∷ parent_path (j ∷ p)

abbrev pub optional_parent_path : Option (List ℕ) → List ℕ
optional_parent_path None = []
optional_parent_path (Some p) = parent_path p

abbrev pub names_path : ElemChildren → List ℕ
names_path c = optional_parent_path (names_find c)

abbrev pub is_found : NamesPosition → Bool
is_found absent = false
is_found here = true
is_found (below p) = true

abbrev pub is_here : NamesPosition → Bool
is_here absent = false
is_here here = true
is_here (below p) = false

-- whether a child in the list is the element of a `cs:names`, and the index of the first such child
abbrev pub any_is_here : List ElemChild → Bool
any_is_here [] = false
any_is_here (k ∷ ks) = is_here (find_of_child k) || any_is_here ks

abbrev pub here_index : List ElemChild → ℕ
here_index [] = 0
here_index (k ∷ ks) = if is_here (find_of_child k) then 0 else here_index ks + 1

-- the last index of a path
abbrev pub end_of : List ℕ → ℕ
end_of [] = 0
end_of (i ∷ []) = i
end_of (i ∷ j ∷ p) = end_of (j ∷ p)

abbrev pub elem_at : Option (List ℕ) → ElemChildren → Option elem.Elem
elem_at None c = None
elem_at (Some p) c = elem_of (child_at (get_at (parent_path p) c) (end_of p))

abbrev pub put_elem_at : Option (List ℕ) → ElemChildren → elem.Elem → ElemChildren
put_elem_at None c e = c
put_elem_at (Some p) c e = put_at (parent_path p) c (put_child (get_at (parent_path p) c) (end_of p) (variants.Elem e))

-- the first element of a `cs:names`, in preorder, and the tree with another element there
abbrev pub first_names : ElemChildren → Option elem.Elem
first_names c = elem_at (names_find c) c

abbrev pub put_first_names : ElemChildren → elem.Elem → ElemChildren
put_first_names c e = put_elem_at (names_find c) c e

abbrev pub lends_elem : MutBor ElemChild → MutBor elem.Elem → Fml
lends_elem s r = Lends child.the_row elem_rows.the_row s r (λ e. variants.Elem e)

abbrev pub lends_that_names : MutBor ElemChildren → MutBor elem.Elem → Fml
lends_that_names s r = Lends children.the_row elem_rows.the_row s r (put_first_names s.now)

abbrev pub lends_names : MutBor ElemChildren → Option (MutBor elem.Elem) → Fml
lends_names s r = LendsIf children.the_row elem_rows.the_row s r (put_first_names s.now) s.now
