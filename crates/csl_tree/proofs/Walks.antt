-- A walk down a tree: where its path leads, and the tree with other children there.
use Rattle.std.proofs.Common.{◌≡◌, ℕ, ◌<◌, true, false, List, [], ◌∷◌, length, refl, sym, ap, ◌∙◌, arith, Some, is_some}
use Rattle.std.specs.Prelude.{unwrap_or}
use Rattle.std.specs.declared.vec.Vec.{Vec}
use Rattle.std.specs.declared.alloc.Global.{Global}
use Rattle.csl_tree.specs.Places.{children_of, with_children, child_at, put_child, descend, get_at, put_at, first_of}
use Rattle.csl_tree.specs.Walks.{path_towards, has_next, index_towards, put_items_towards}
use Rattle.csl_tree.specs.declared.places.Target.{Target}
use Rattle.csl_tree.specs.declared.places.Target.TheVariants.{Names, End}
use Rattle.csl_tree.specs.declared.elem.ElemChild.{ElemChild}
use Rattle.csl_tree.specs.declared.elem.ElemChildren.{ElemChildren}
use Rattle.csl_tree.proofs.LastPlace as last
use Rattle.csl_tree.proofs.NamesPlace as names

abbrev pub made : Vec ElemChild Global → ElemChildren
made v = record { 0 = v }

-- the path follows the walk: on in one child, or it stops
further : (to : Target) (c d : ElemChildren) (x : ElemChild) → x ≡ child_at c (index_towards to c) → Some d ≡ children_of x → has_next to c ≡ true → path_towards to c ≡ index_towards to c ∷ path_towards to d
further Names c d x is has on = names.further c d x is has on
further End c d x is has on = last.further c d x is has on

pub has_children : (to : Target) (c : ElemChildren) (x : ElemChild) → x ≡ child_at c (index_towards to c) → has_next to c ≡ true → is_some (children_of x) ≡ true
has_children Names c x is on = names.has_children c x is on
has_children End c x is on = last.has_children c x is on

no_step : (p : List ℕ) → is_some (first_of p) ≡ false → p ≡ []
no_step [] h = refl
no_step (i ∷ p) h = cc

stops : (to : Target) (c : ElemChildren) → has_next to c ≡ false → path_towards to c ≡ []
stops to c h = no_step (path_towards to c) h

module _ (to : Target) where
  abbrev pub items_with : ElemChildren → ElemChild → ElemChildren → Vec ElemChild Global → ElemChildren
  items_with c k d v = put_child c (index_towards to c) (with_children k (put_items_towards to d v))

  -- where it stops
  pub reached_here : (c : ElemChildren) → has_next to c ≡ false → c ≡ get_at (path_towards to c) c
  reached_here c h = ap (λ p. get_at p c) (sym (stops to c h))

  pub put_items_here : (c : ElemChildren) → has_next to c ≡ false → made ≡ put_items_towards to c
  put_items_here c h = ap (λ p v. put_at p c (made v)) (sym (stops to c h))

  -- where it goes on
  module _ (c d : ElemChildren) (x : ElemChild) (is : x ≡ child_at c (index_towards to c)) (has : Some d ≡ children_of x) (on : has_next to c ≡ true) where
    down_is : descend c (index_towards to c) ≡ d
    down_is = ap (λ k. unwrap_or (children_of k) c) (sym is) ∙ ap (λ o. unwrap_or o c) (sym has)

    pub reached_down : get_at (path_towards to d) d ≡ get_at (path_towards to c) c
    reached_down = ap (get_at (path_towards to d)) (sym down_is) ∙ ap (λ p. get_at p c) (sym (further to c d x is has on))

    abbrev put_with : List ℕ → ElemChild → ElemChildren → Vec ElemChild Global → ElemChildren
    put_with p k e v = put_child c (index_towards to c) (with_children k (put_at p e (made v)))

    pub put_items_further : items_with c x d ≡ put_items_towards to c
    put_items_further =
        ap (λ k. put_with (path_towards to d) k d) is
        ∙ ap (put_with (path_towards to d) (child_at c (index_towards to c))) (sym down_is)
        ∙ ap (λ p v. put_at p c (made v)) (sym (further to c d x is has on))

    pub shorter : length (path_towards to d) < length (path_towards to c)
    shorter = let l = ap length (further to c d x is has on) in omega (arith, l)
