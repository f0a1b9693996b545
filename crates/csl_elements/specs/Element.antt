-- The *count* of a node is the number of nodes, branches and children of names in it, with itself
-- where it is one of these. Its *depth* is its number of levels. A node is dropped by a loop that
-- keeps lists of what remains: each turn lowers their count, and their depth stays below the node's.
use Rattle.std.specs.Prelude.{ℕ, ◌+◌, List, Option, Some, None, Vec, sum}
use Rattle.std.specs.List.{sum_by}
use Rattle.std.specs.declared.alloc.Global.{Global}
use Prim.Native.Nat.{max}
use denote.Param.Weighed.{most}
use Rattle.csl_elements.specs.declared.element.Inside.{Inside}
use Rattle.csl_elements.specs.declared.element.LayoutRenderingElement.{LayoutRenderingElement, fold-LayoutRenderingElement}
use Rattle.csl_elements.specs.declared.element.LayoutRenderingElement.TheOpen as level
use Rattle.csl_elements.specs.declared.element.LayoutRenderingElement.TheOpen.{LayoutRenderingElement-F, Choose-F, ChooseBranch-F, Group-F, Names-F, NamesChild-F, Substitute-F}
use Rattle.csl_elements.specs.declared.element.LayoutRenderingElement.TheViews.{size-LayoutRenderingElement, size-ChooseBranch, size-NamesChild}
use Rattle.csl_elements.specs.declared.element.Choose.{Choose, fold-Choose}
use Rattle.csl_elements.specs.declared.element.ChooseBranch.{ChooseBranch, fold-ChooseBranch}
use Rattle.csl_elements.specs.declared.element.Group.{Group, fold-Group}
use Rattle.csl_elements.specs.declared.element.Names.{Names, fold-Names}
use Rattle.csl_elements.specs.declared.element.NamesChild.{NamesChild, fold-NamesChild}
use Rattle.csl_elements.specs.declared.element.Substitute.{Substitute, fold-Substitute}

abbrev pub element_step : LayoutRenderingElement-F ℕ ℕ ℕ ℕ ℕ ℕ ℕ → ℕ
element_step (level.Text t) = 1
element_step (level.Number n) = 1
element_step (level.LayoutRenderingElement::Label l) = 1
element_step (level.Date d) = 1
element_step (level.Names n) = n + 1
element_step (level.Choose n) = n + 1
element_step (level.Group n) = n + 1

abbrev pub sum_if : Option (Vec ℕ Global) → ℕ
sum_if None = 0
sum_if (Some v) = sum v.items

abbrev pub choose_step : Choose-F ℕ ℕ ℕ ℕ ℕ ℕ ℕ → ℕ
choose_step c = c.if_ + sum c.else_if.items + sum_if c.otherwise

abbrev pub branch_step : ChooseBranch-F ℕ ℕ ℕ ℕ ℕ ℕ ℕ → ℕ
branch_step b = sum b.children.items + 1

abbrev pub group_step : Group-F ℕ ℕ ℕ ℕ ℕ ℕ ℕ → ℕ
group_step g = sum g.children.items

abbrev pub names_step : Names-F ℕ ℕ ℕ ℕ ℕ ℕ ℕ → ℕ
names_step n = sum n.children.items

abbrev pub child_step : NamesChild-F ℕ ℕ ℕ ℕ ℕ ℕ ℕ → ℕ
child_step (level.Name n) = 1
child_step (level.EtAl e) = 1
child_step (level.NamesChild::Label l) = 1
child_step (level.Substitute n) = n + 1

abbrev pub substitute_step : Substitute-F ℕ ℕ ℕ ℕ ℕ ℕ ℕ → ℕ
substitute_step s = sum s.children.items

abbrev pub node_count : LayoutRenderingElement → ℕ
node_count n = fold-LayoutRenderingElement ℕ ℕ ℕ ℕ ℕ ℕ ℕ element_step child_step choose_step branch_step group_step names_step substitute_step n

abbrev pub group_count : Group → ℕ
group_count n = fold-Group ℕ ℕ ℕ ℕ ℕ ℕ ℕ element_step child_step choose_step branch_step group_step names_step substitute_step n

abbrev pub choose_count : Choose → ℕ
choose_count n = fold-Choose ℕ ℕ ℕ ℕ ℕ ℕ ℕ element_step child_step choose_step branch_step group_step names_step substitute_step n

abbrev pub names_count : Names → ℕ
names_count n = fold-Names ℕ ℕ ℕ ℕ ℕ ℕ ℕ element_step child_step choose_step branch_step group_step names_step substitute_step n

abbrev pub branch_count : ChooseBranch → ℕ
branch_count n = fold-ChooseBranch ℕ ℕ ℕ ℕ ℕ ℕ ℕ element_step child_step choose_step branch_step group_step names_step substitute_step n

abbrev pub child_count : NamesChild → ℕ
child_count n = fold-NamesChild ℕ ℕ ℕ ℕ ℕ ℕ ℕ element_step child_step choose_step branch_step group_step names_step substitute_step n

abbrev pub substitute_count : Substitute → ℕ
substitute_count n = fold-Substitute ℕ ℕ ℕ ℕ ℕ ℕ ℕ element_step child_step choose_step branch_step group_step names_step substitute_step n

abbrev pub node_counts : List LayoutRenderingElement → ℕ
node_counts ns = sum_by node_count ns

abbrev pub branch_counts : List ChooseBranch → ℕ
branch_counts bs = sum_by branch_count bs

abbrev pub child_counts : List NamesChild → ℕ
child_counts cs = sum_by child_count cs

abbrev pub inside_count : Inside → ℕ
inside_count i = node_counts i.nodes.items + node_counts i.otherwise.items + branch_counts i.branches.items + child_counts i.children.items

abbrev pub node_depth : LayoutRenderingElement → ℕ
node_depth n = size-LayoutRenderingElement n

abbrev pub branch_depth : ChooseBranch → ℕ
branch_depth b = size-ChooseBranch b

abbrev pub child_depth : NamesChild → ℕ
child_depth c = size-NamesChild c

abbrev pub node_depths : List LayoutRenderingElement → ℕ
node_depths ns = most node_depth ns

abbrev pub branch_depths : List ChooseBranch → ℕ
branch_depths bs = most branch_depth bs

abbrev pub child_depths : List NamesChild → ℕ
child_depths cs = most child_depth cs

abbrev pub inside_depth : Inside → ℕ
inside_depth i = max (max (node_depths i.nodes.items) (node_depths i.otherwise.items)) (max (branch_depths i.branches.items) (child_depths i.children.items))
