-- The depth of a names node, one level at a time.
use Rattle.std.proofs.Common.{◌≡◌, ℕ, suc, max, List, map, Option, refl, ap, ◌∙◌}
use Rattle.csl_elements.specs.Names.{NamesNode}
use Rattle.csl_elements.specs.NamesParts.{names_node, names_substitutes}
use Rattle.csl_elements.specs.Node.{Substitutes, no_substitutes, substitute, ExpandedNodes, expand, expand_nodes, expand_substitutes}
use Rattle.csl_elements.specs.declared.element.Names.{Names, out-Names}
use Rattle.csl_elements.specs.View.{view_names, view_child, substitutes}
use Rattle.csl_elements.proofs.Rolled.{names_view}
use Rattle.csl_style.specs.Depth.{node_depth, nodes_depth, substitutes_depth}
use Rattle.csl_style.proofs.Within.{substitutes_within}

-- the depth of the nodes in the substitutes of a names node as written
abbrev pub written_depth : (List ℕ → Option ExpandedNodes) → Substitutes → ℕ
written_depth env no_substitutes = 0
written_depth env (substitute ns ss) = max (nodes_depth (expand_nodes env ns)) (written_depth env ss)

module _ (env : List ℕ → Option ExpandedNodes) where
  insteads_same : (original : NamesNode) (ss : Substitutes) → substitutes_depth (expand_substitutes env original ss) ≡ written_depth env ss
  insteads_same = substitutes_within env node_depth nodes_depth max (λ original n. refl) (λ f fs. refl) substitutes_depth (written_depth env) max refl (λ fs is. refl) (λ ns ss. refl)

  pub names_deep : (x : Names) → node_depth (expand env (view_names x)) ≡ suc (written_depth env (substitutes (map view_child (out-Names x).children.items)))
  names_deep x = ap (λ n. node_depth (expand env n)) (names_view x) ∙ ap suc (insteads_same (names_node x) (names_substitutes x))
