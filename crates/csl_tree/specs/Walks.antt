-- A walk down a tree goes from children to the children of one of them, along the path to its
-- target. All here is internal: only the contracts of private functions cite it.
use Rattle.std.specs.Prelude.{ℕ, Bool, List, Option, is_some, unwrap_or}
use Rattle.std.specs.Borrow.{Fml, MutBor, Lends}
use Rattle.std.specs.declared.vec.Vec.{Vec}
use Rattle.std.specs.declared.alloc.Global.{Global}
use Rattle.csl_tree.specs.Places.{put_child, get_at, put_at, first_of, last_path, items_row}
use Rattle.csl_tree.specs.FindNames.{names_path}
use Rattle.csl_tree.specs.declared.places.Target.{Target}
use Rattle.csl_tree.specs.declared.places.Target.TheVariants.{Names, End}
use Rattle.csl_tree.specs.declared.elem.ElemChild.{ElemChild}
use Rattle.csl_tree.specs.declared.elem.ElemChildren.{ElemChildren}
use Rattle.csl_tree.specs.contracts.elem.ElemChildren as children
use Rattle.csl_tree.specs.contracts.elem.ElemChild as child

-- the path to the target
abbrev pub path_towards : Target → ElemChildren → List ℕ
path_towards Names c = names_path c
path_towards End c = last_path c

-- the child in which the walk goes on, if it goes on
abbrev pub next_towards : Target → ElemChildren → Option ℕ
next_towards to c = first_of (path_towards to c)

abbrev pub has_next : Target → ElemChildren → Bool
has_next to c = is_some (next_towards to c)

abbrev pub index_towards : Target → ElemChildren → ℕ
index_towards to c = unwrap_or (next_towards to c) 0

-- the items to which the walk leads, and the tree with others there
abbrev pub items_towards : Target → ElemChildren → Vec ElemChild Global
items_towards to c = (get_at (path_towards to c) c).0

abbrev pub put_items_towards : Target → ElemChildren → Vec ElemChild Global → ElemChildren
put_items_towards to c v = put_at (path_towards to c) c (record { 0 = v })

abbrev pub lends_child_towards : Target → MutBor ElemChildren → MutBor ElemChild → Fml
lends_child_towards to s r = Lends children.the_row child.the_row s r (put_child s.now (index_towards to s.now))

abbrev pub lends_items_towards : Target → MutBor ElemChildren → MutBor (Vec ElemChild Global) → Fml
lends_items_towards to s r = Lends children.the_row items_row s r (put_items_towards to s.now)
