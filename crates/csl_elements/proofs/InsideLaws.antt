-- The lists inside a node have a smaller count and a smaller depth than the node.
use Rattle.std.proofs.Common.{◌≡◌, ℕ, ◌+◌, ◌<◌, ◌≤◌, List, [], ◌++◌, Option, Some, None, map, sym, ap, ◌∙◌, arith, max}
use Rattle.std.specs.Prelude.{Vec}
use Rattle.std.specs.declared.alloc.Global.{Global}
use Rattle.std.specs.List.{sum_by}
use Rattle.std.proofs.lemmas.Grind.{common_steps}
use Rattle.csl_elements.specs.declared.element.LayoutRenderingElement.TheShapes.{weighed-Choose-otherwise}
use Rattle.std.proofs.lemmas.List.Sums.{sum_by-append, sum-map}
use denote.Param.Weighed.{most, most-append}
use Rattle.csl_elements.specs.declared.element.Group.{Group, out-Group}
use Rattle.csl_elements.specs.declared.element.Choose.{Choose, out-Choose}
use Rattle.csl_elements.specs.declared.element.Names.{Names, out-Names}
use Rattle.csl_elements.specs.declared.element.ChooseBranch.{ChooseBranch, out-ChooseBranch}
use Rattle.csl_elements.specs.declared.element.NamesChild.{NamesChild}
use Rattle.csl_elements.specs.declared.element.NamesChild.TheVariants as of_names
use Rattle.csl_elements.specs.declared.element.Substitute.{Substitute, out-Substitute}
use Rattle.csl_elements.specs.declared.element.LayoutRenderingElement.{LayoutRenderingElement}
use Rattle.csl_elements.specs.declared.element.LayoutRenderingElement.TheVariants as elements
use Rattle.csl_elements.specs.declared.element.LayoutRenderingElement.TheOpen as level
use Rattle.csl_elements.specs.declared.element.LayoutRenderingElement.TheOpen.{LayoutRenderingElement-F, NamesChild-F}
use Rattle.csl_elements.specs.declared.element.LayoutRenderingElement.TheFolds.{fold-roll-LayoutRenderingElement, fold-roll-NamesChild, fold_out-Group, fold_out-Choose, fold_out-Names, fold_out-ChooseBranch, fold_out-Substitute, fold_out-NamesChild, fold_out-LayoutRenderingElement}
use Rattle.csl_elements.specs.declared.element.LayoutRenderingElement.TheViews.{size_is-Group, size_is-Choose, size_is-ChooseBranch, size_is-Names, size_is-Substitute, sized-Group, sized-Choose, sized-Names, sized-Substitute}
use Rattle.csl_elements.specs.Element.{element_step, child_step, choose_step, branch_step, group_step, names_step, substitute_step, node_count, node_counts, choose_count, branch_count, branch_counts, child_count, child_counts, node_depth, node_depths, branch_depth, branch_depths, child_depth, child_depths}

-- the nodes of an `else`, if there is one
abbrev pub others : Option (Vec LayoutRenderingElement Global) → List LayoutRenderingElement
others None = []
others (Some v) = v.items

-- ---- counts

pub count_in_group : (x : Group) → node_count (elements.Group x) ≡ node_counts (out-Group x).children.items + 1
count_in_group x =
    ap node_count (sym (elements.rolls-Group x)) ∙ fold-roll-LayoutRenderingElement ℕ ℕ ℕ ℕ ℕ ℕ ℕ element_step child_step choose_step branch_step group_step names_step substitute_step (level.Group x)
    ∙ ap (λ n. n + 1) (rw (fold_out-Group ℕ ℕ ℕ ℕ ℕ ℕ ℕ element_step child_step choose_step branch_step group_step names_step substitute_step x) (sum-map node_count (out-Group x).children.items))

pub count_in_names : (x : Names) → node_count (elements.Names x) ≡ child_counts (out-Names x).children.items + 1
count_in_names x =
    ap node_count (sym (elements.rolls-Names x)) ∙ fold-roll-LayoutRenderingElement ℕ ℕ ℕ ℕ ℕ ℕ ℕ element_step child_step choose_step branch_step group_step names_step substitute_step (level.Names x)
    ∙ ap (λ n. n + 1) (rw (fold_out-Names ℕ ℕ ℕ ℕ ℕ ℕ ℕ element_step child_step choose_step branch_step group_step names_step substitute_step x) (sum-map child_count (out-Names x).children.items))

pub count_in_choose : (x : Choose) → node_count (elements.Choose x) ≡ choose_count x + 1
count_in_choose x =
    ap node_count (sym (elements.rolls-Choose x)) ∙ fold-roll-LayoutRenderingElement ℕ ℕ ℕ ℕ ℕ ℕ ℕ element_step child_step choose_step branch_step group_step names_step substitute_step (level.Choose x)

pub choose_is : (x : Choose) → choose_count x ≡ branch_count (out-Choose x).if_ + branch_counts (out-Choose x).else_if.items + node_counts (others (out-Choose x).otherwise)
choose_is x = rw (fold_out-Choose ℕ ℕ ℕ ℕ ℕ ℕ ℕ element_step child_step choose_step branch_step group_step names_step substitute_step x, sum-map branch_count (out-Choose x).else_if.items) (grind (arith, common_steps, sum-map))

pub count_in_branch : (x : ChooseBranch) → branch_count x ≡ node_counts (out-ChooseBranch x).children.items + 1
count_in_branch x = rw (fold_out-ChooseBranch ℕ ℕ ℕ ℕ ℕ ℕ ℕ element_step child_step choose_step branch_step group_step names_step substitute_step x) (ap (λ n. n + 1) (sum-map node_count (out-ChooseBranch x).children.items))

pub count_in_substitute : (x : Substitute) → child_count (of_names.Substitute x) ≡ node_counts (out-Substitute x).children.items + 1
count_in_substitute x =
    ap child_count (sym (of_names.rolls-Substitute x)) ∙ fold-roll-NamesChild ℕ ℕ ℕ ℕ ℕ ℕ ℕ element_step child_step choose_step branch_step group_step names_step substitute_step (level.Substitute x)
    ∙ ap (λ n. n + 1) (rw (fold_out-Substitute ℕ ℕ ℕ ℕ ℕ ℕ ℕ element_step child_step choose_step branch_step group_step names_step substitute_step x) (sum-map node_count (out-Substitute x).children.items))

some_element_step : (x : LayoutRenderingElement-F ℕ ℕ ℕ ℕ ℕ ℕ ℕ) → 0 < element_step x
some_element_step (level.Text t) = omega arith
some_element_step (level.Number n) = omega arith
some_element_step (level.LayoutRenderingElement::Label l) = omega arith
some_element_step (level.Date d) = omega arith
some_element_step (level.Names n) = omega arith
some_element_step (level.Choose n) = omega arith
some_element_step (level.Group n) = omega arith

pub some_node : (x : LayoutRenderingElement) → 0 < node_count x
some_node x = rw (fold_out-LayoutRenderingElement ℕ ℕ ℕ ℕ ℕ ℕ ℕ element_step child_step choose_step branch_step group_step names_step substitute_step x) (some_element_step _)

some_child_step : (x : NamesChild-F ℕ ℕ ℕ ℕ ℕ ℕ ℕ) → 0 < child_step x
some_child_step (level.Name n) = omega arith
some_child_step (level.EtAl e) = omega arith
some_child_step (level.NamesChild::Label l) = omega arith
some_child_step (level.Substitute n) = omega arith

pub some_child : (x : NamesChild) → 0 < child_count x
some_child x = rw (fold_out-NamesChild ℕ ℕ ℕ ℕ ℕ ℕ ℕ element_step child_step choose_step branch_step group_step names_step substitute_step x) (some_child_step _)

-- ---- depths

pub depth_in_group : (x : Group) → node_depths (out-Group x).children.items < node_depth (elements.Group x)
depth_in_group x = omega (arith, sized-Group x, size_is-Group x)

pub depth_in_names : (x : Names) → child_depths (out-Names x).children.items < node_depth (elements.Names x)
depth_in_names x = omega (arith, sized-Names x, size_is-Names x)

pub depth_in_branch : (x : ChooseBranch) → node_depths (out-ChooseBranch x).children.items < branch_depth x
depth_in_branch x = omega (arith, size_is-ChooseBranch x)

pub depth_in_if : (x : Choose) → branch_depth (out-Choose x).if_ < node_depth (elements.Choose x)
depth_in_if x = omega (arith, sized-Choose x, size_is-Choose x)

pub depth_in_else_if : (x : Choose) → branch_depths (out-Choose x).else_if.items < node_depth (elements.Choose x)
depth_in_else_if x = omega (arith, sized-Choose x, size_is-Choose x)

other_depth : (o : Option (Vec LayoutRenderingElement Global)) → node_depths (others o) ≤ weighed-Choose-otherwise.weight LayoutRenderingElement node_depth o
other_depth None = omega arith
other_depth (Some v) = omega arith

pub depth_in_otherwise : (x : Choose) → node_depths (others (out-Choose x).otherwise) < node_depth (elements.Choose x)
depth_in_otherwise x = omega (arith, sized-Choose x, size_is-Choose x, other_depth (out-Choose x).otherwise)

pub depth_in_substitute : (x : Substitute) → node_depths (out-Substitute x).children.items < child_depth (of_names.Substitute x)
depth_in_substitute x = omega (arith, sized-Substitute x, size_is-Substitute x)

-- ---- lists

module _ {X : Type 0} (f : X → ℕ) where
  pub sums_append : (xs ys : List X) → sum_by f (xs ++ ys) ≡ sum_by f xs + sum_by f ys
  sums_append xs ys = sum_by-append f xs ys

  pub mosts_append : (xs ys : List X) → most f (xs ++ ys) ≡ max (most f xs) (most f ys)
  mosts_append xs ys = most-append f xs ys

  pub moved_sum : (ps qs rs ts : List X) → ps ++ qs ≡ rs ++ ts → sum_by f ps + sum_by f qs ≡ sum_by f rs + sum_by f ts
  moved_sum ps qs rs ts e = sym (sum_by-append f ps qs) ∙ ap (sum_by f) e ∙ sum_by-append f rs ts

  pub moved_most : (ps qs rs ts : List X) → ps ++ qs ≡ rs ++ ts → max (most f ps) (most f qs) ≡ max (most f rs) (most f ts)
  moved_most ps qs rs ts e = sym (most-append f ps qs) ∙ ap (most f) e ∙ most-append f rs ts

-- ---- what the sources name

-- for the lists inside a node, a branch and a child of names
pub ruleset inside_laws = (count_in_group, count_in_names, count_in_choose, choose_is, depth_in_group, depth_in_names, depth_in_if, depth_in_else_if, depth_in_otherwise)

pub ruleset branch_laws = (count_in_branch, depth_in_branch)

pub ruleset child_laws = (count_in_substitute, depth_in_substitute)

-- for a list that takes the items of another
pub ruleset moved_laws = (moved_sum, moved_most)

-- for the loop over the lists of one node after another
pub ruleset nested_laws = (sums_append, mosts_append, some_node, some_child)
