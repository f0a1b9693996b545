-- Nodes are at most as deep as they are large.
use Rattle.std.proofs.Common.{◌≤◌, suc, false, [], arith}
use Rattle.csl_elements.specs.Node.{ExpandedNode, expanded_macro, expanded_names, expanded_choose, expanded_group, ExpandedNodes, no_expanded_nodes, expanded_node, ExpandedBranches, no_expanded_branches, expanded_otherwise, expanded_branch, ExpandedSubstitutes, no_expanded_substitutes, expanded_substitute}
use Rattle.csl_style.specs.Depth.{node_depth, nodes_depth, branches_depth, substitutes_depth}
use Rattle.csl_style.specs.Size.{weight, weights, branches_weight, substitutes_weight}

mutual
  node_within : (f : ExpandedNode) → node_depth f ≤ suc (weight false [] f)
  node_within (expanded_macro fs d) = let inside = nodes_within fs in omega arith
  node_within (expanded_names n is) = let inside = substitutes_within is in omega arith
  node_within (expanded_choose cs) = let inside = branches_within cs in omega arith
  node_within (expanded_group delimiter d fs) = let inside = nodes_within fs in omega arith
  node_within other = omega arith

  pub nodes_within : (fs : ExpandedNodes) → nodes_depth fs ≤ weights false [] fs
  nodes_within no_expanded_nodes = omega arith
  nodes_within (expanded_node f fs) = let first = node_within f in let rest = nodes_within fs in omega arith

  branches_within : (cs : ExpandedBranches) → branches_depth cs ≤ branches_weight false [] cs
  branches_within no_expanded_branches = omega arith
  branches_within (expanded_otherwise fs) = let inside = nodes_within fs in omega arith
  branches_within (expanded_branch ts fs cs) = let inside = nodes_within fs in let rest = branches_within cs in omega arith

  substitutes_within : (is : ExpandedSubstitutes) → substitutes_depth is ≤ substitutes_weight false [] is
  substitutes_within no_expanded_substitutes = omega arith
  substitutes_within (expanded_substitute fs is) = let inside = nodes_within fs in let rest = substitutes_within is in omega arith
