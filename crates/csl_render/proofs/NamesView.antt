-- A substitute as data, and the size of a names node.
use Rattle.std.proofs.Common.{◌≡◌, ℕ, suc, List, Option, refl, ap}
use Rattle.csl_elements.specs.declared.element.Names.{Names}
use Rattle.csl_elements.specs.declared.element.Substitute.{Substitute, out-Substitute}
use Rattle.csl_elements.specs.declared.element.LayoutRenderingElement.TheFolds.{fold_out-Substitute}
use Rattle.csl_elements.specs.Node.{Node, Nodes, ExpandedNodes, expand, size, expanded_substitutes_size}
use Rattle.csl_elements.specs.View.{NamesChildView, BranchView, view_names, view_substitute, view_nodes, element_step, child_step, choose_step, branch_step, group_step, names_step, substitute_step}
use Rattle.csl_elements.proofs.Rolled.{names_view}
use Rattle.csl_render.specs.Names.{expanded_substitutes_of}

pub substitute_out : (x : Substitute) → view_substitute x ≡ view_nodes (out-Substitute x).children.items
substitute_out x = rw (fold_out-Substitute Node NamesChildView Node BranchView Node Node Nodes element_step child_step choose_step branch_step group_step names_step substitute_step x) refl

-- names are one larger than their substitutes
pub names_size : (env : List ℕ → Option ExpandedNodes) (x : Names) → size (expand env (view_names x)) ≡ suc (expanded_substitutes_size (expanded_substitutes_of env x))
names_size env x = ap (λ n. size (expand env n)) (names_view x)
