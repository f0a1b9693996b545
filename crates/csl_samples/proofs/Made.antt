-- A substitute that the code constructs, as data.
use Rattle.std.proofs.Common.{◌≡◌, [], ◌∷◌, map, refl, sym, ap, ◌∙◌}
use Rattle.std.specs.Prelude.{Vec}
use Rattle.std.specs.declared.alloc.Global.{Global}
use Rattle.csl_elements.specs.declared.element.LayoutRenderingElement.{LayoutRenderingElement}
use Rattle.csl_elements.specs.declared.element.LayoutRenderingElement.TheOpen as level
use Rattle.csl_elements.specs.declared.element.LayoutRenderingElement.TheFolds.{fold-roll-NamesChild, fold_out-Substitute}
use Rattle.csl_elements.specs.declared.element.NamesChild.TheVariants as of_names
use Rattle.csl_elements.specs.declared.element.Substitute.{Substitute, roll-Substitute}
use Rattle.csl_elements.specs.Node.{Node, Nodes, node, no_nodes}
use Rattle.csl_elements.specs.View.{NamesChildView, BranchView, a_substitute, view_node, view_child, view_substitute, view_nodes, nodes_of, element_step, child_step, choose_step, branch_step, group_step, names_step, substitute_step}

substitute_out : (x : Substitute) → view_substitute x ≡ view_nodes x.children.items
substitute_out x = rw (fold_out-Substitute Node NamesChildView Node BranchView Node Node Nodes element_step child_step choose_step branch_step group_step names_step substitute_step x) refl

substitute_view : (x : Substitute) → view_child (of_names.Substitute x) ≡ a_substitute (view_nodes x.children.items)
substitute_view x = ap view_child (sym (of_names.rolls-Substitute x)) ∙ fold-roll-NamesChild Node NamesChildView Node BranchView Node Node Nodes element_step child_step choose_step branch_step group_step names_step substitute_step (level.Substitute x) ∙ ap a_substitute (substitute_out x)

-- a substitute of one node
pub instead_made : (children : Vec LayoutRenderingElement Global) (e : LayoutRenderingElement) (n : Node) → children.items ≡ e ∷ [] → view_node e ≡ n → view_child (of_names.Substitute (roll-Substitute record { children = children })) ≡ a_substitute (node n no_nodes)
instead_made children e n one is =
    substitute_view (roll-Substitute record { children = children })
    ∙ ap (λ es. a_substitute (nodes_of (map view_node es))) one ∙ ap (λ m. a_substitute (node m no_nodes)) is
