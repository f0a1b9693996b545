-- A group as data.
use Rattle.std.proofs.Common.{◌≡◌, refl}
use Rattle.csl_elements.specs.declared.element.Group.{Group}
use Rattle.csl_elements.specs.declared.element.LayoutRenderingElement.TheFolds.{fold_out-Group}
use Rattle.csl_elements.specs.Dressing.{text_if, dressing_of}
use Rattle.csl_elements.specs.Node.{Node, group, Nodes}
use Rattle.csl_elements.specs.View.{NamesChildView, BranchView, view_group, view_nodes, element_step, child_step, choose_step, branch_step, group_step, names_step, substitute_step}

pub group_out : (x : Group) → view_group x ≡ group (text_if x.delimiter) (dressing_of x.formatting x.affixes x.display) (view_nodes x.children.items)
group_out x = rw (fold_out-Group Node NamesChildView Node BranchView Node Node Nodes element_step child_step choose_step branch_step group_step names_step substitute_step x) refl
