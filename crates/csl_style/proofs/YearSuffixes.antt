-- A names node and a choose, one level at a time: whether a text of the year suffix is in them, and
-- their sizes.
use Rattle.std.proofs.Common.{◌≡◌, ℕ, ◌+◌, suc, Bool, false, ◌||◌, List, ◌∷◌, map, Option, option_map, refl, ap, ◌∙◌, arith}
use Rattle.csl_elements.specs.Names.{NamesNode}
use Rattle.csl_elements.specs.NamesParts.{names_node, names_substitutes}
use Rattle.csl_elements.specs.Node.{Node, choose, Nodes, Substitutes, no_substitutes, substitute, Branches, branch, ExpandedNodes, expand, expand_nodes, expand_branches, expand_substitutes, size, sizes, expanded_branches_size, expanded_substitutes_size}
use Rattle.csl_elements.specs.declared.element.Names.{Names, out-Names}
use Rattle.csl_elements.specs.declared.element.Choose.{Choose, out-Choose}
use Rattle.csl_elements.specs.declared.element.ChooseBranch.{ChooseBranch, out-ChooseBranch}
use Rattle.csl_elements.specs.declared.element.LayoutRenderingElement.TheFolds.{fold_out-ChooseBranch}
use Rattle.csl_elements.specs.View.{view_nodes, view_choose, view_branch, branches_of, view_names, view_child, substitutes, NamesChildView, a_substitute, BranchView, element_step, child_step, choose_step, branch_step, group_step, names_step, substitute_step}
use Rattle.csl_style.specs.Expanded.{child_size}
use Rattle.csl_elements.proofs.Rolled.{choose_view, names_view}
use Rattle.csl_style.specs.YearSuffix.{has_year_suffix, any_has_year_suffix, substitutes_have_year_suffix}
use Rattle.csl_style.proofs.Within.{substitutes_within}

-- the substitutes of a names node as written: whether a text of the year suffix is in one, and
-- their size
abbrev pub substitute_has_year_suffix : (List ℕ → Option ExpandedNodes) → Substitutes → Bool
substitute_has_year_suffix env no_substitutes = false
substitute_has_year_suffix env (substitute ns ss) = any_has_year_suffix (expand_nodes env ns) || substitute_has_year_suffix env ss

abbrev pub substitutes_size : (List ℕ → Option ExpandedNodes) → Substitutes → ℕ
substitutes_size env no_substitutes = 0
substitutes_size env (substitute ns ss) = suc (sizes (expand_nodes env ns) + substitutes_size env ss)

module _ (env : List ℕ → Option ExpandedNodes) where
  pub insteads_same : (original : NamesNode) (ss : Substitutes) → substitutes_have_year_suffix (expand_substitutes env original ss) ≡ substitute_has_year_suffix env ss
  insteads_same = substitutes_within env has_year_suffix any_has_year_suffix (λ a b. a || b) (λ original n. refl) (λ f fs. refl) substitutes_have_year_suffix (substitute_has_year_suffix env) (λ a b. a || b) refl (λ fs is. refl) (λ ns ss. refl)

  pub insteads_sized : (original : NamesNode) (ss : Substitutes) → expanded_substitutes_size (expand_substitutes env original ss) ≡ substitutes_size env ss
  insteads_sized = substitutes_within env size sizes (λ a b. suc (a + b)) (λ original n. refl) (λ f fs. refl) expanded_substitutes_size (substitutes_size env) (λ a b. suc (a + b)) refl (λ fs is. refl) (λ ns ss. refl)

  pub names_sized : (x : Names) → size (expand env (view_names x)) ≡ suc (substitutes_size env (substitutes (map view_child (out-Names x).children.items)))
  names_sized x = ap (λ n. size (expand env n)) (names_view x) ∙ ap suc (insteads_sized (names_node x) (names_substitutes x))

  pub children_sized : (c : NamesChildView) (cs : List NamesChildView) → substitutes_size env (substitutes (c ∷ cs)) ≡ child_size env c + substitutes_size env (substitutes cs)
  children_sized (a_substitute ns) cs = omega arith
  children_sized other cs = omega arith

-- ---- one level of a branch and of a choose

pub nodes_out : (b : ChooseBranch) → (view_branch b).nodes ≡ view_nodes (out-ChooseBranch b).children.items
nodes_out b = rw (fold_out-ChooseBranch Node NamesChildView Node BranchView Node Node Nodes element_step child_step choose_step branch_step group_step names_step substitute_step b) refl

-- the branches after the first, and the nodes of `cs:else` if there is one
abbrev pub behind : Choose → Branches
behind x = branches_of (map view_branch (out-Choose x).else_if.items) (option_map (λ v. view_nodes v.items) (out-Choose x).otherwise)

pub choose_out : (x : Choose) → view_choose x ≡ choose (branch (view_branch (out-Choose x).if_).tests (view_branch (out-Choose x).if_).nodes (behind x))
choose_out x = choose_view x

module _ (env : List ℕ → Option ExpandedNodes) where
  pub choose_sized : (x : Choose) → size (expand env (view_choose x)) ≡ suc (suc (sizes (expand_nodes env (view_nodes (out-ChooseBranch (out-Choose x).if_).children.items)) + expanded_branches_size (expand_branches env (behind x))))
  choose_sized x = ap (λ n. size (expand env n)) (choose_out x) ∙ ap (λ ns. suc (suc (sizes (expand_nodes env ns) + expanded_branches_size (expand_branches env (behind x))))) (nodes_out (out-Choose x).if_)
