-- The depth of nodes with all macros expanded (CSL 1.0.2, Macro): how many of them are in one
-- another, at most. A node counts one, and one more than the deepest node that is in it. A text of
-- a macro that the style has holds the nodes of the macro. A names node holds those of its
-- substitutes, and a choose those of its branches.
use Rattle.std.specs.Prelude.{ℕ, suc, max, List, Option}
use Rattle.csl_elements.specs.View.{NamesChildView, a_substitute}
use Rattle.csl_elements.specs.Node.{ExpandedNode, expanded_macro, expanded_names, expanded_choose, expanded_group, ExpandedNodes, no_expanded_nodes, expanded_node, ExpandedBranches, no_expanded_branches, expanded_otherwise, expanded_branch, ExpandedSubstitutes, no_expanded_substitutes, expanded_substitute, ExpandedLayout, expand_nodes}

abbrev mutual
  pub node_depth : ExpandedNode → ℕ
  node_depth (expanded_macro fs d) = suc (nodes_depth fs)
  node_depth (expanded_names n is) = suc (substitutes_depth is)
  node_depth (expanded_choose cs) = suc (branches_depth cs)
  node_depth (expanded_group delimiter d fs) = suc (nodes_depth fs)
  node_depth other = 1

  pub nodes_depth : ExpandedNodes → ℕ
  nodes_depth no_expanded_nodes = 0
  nodes_depth (expanded_node f fs) = max (node_depth f) (nodes_depth fs)

  pub branches_depth : ExpandedBranches → ℕ
  branches_depth no_expanded_branches = 0
  branches_depth (expanded_otherwise fs) = nodes_depth fs
  branches_depth (expanded_branch ts fs cs) = max (nodes_depth fs) (branches_depth cs)

  pub substitutes_depth : ExpandedSubstitutes → ℕ
  substitutes_depth no_expanded_substitutes = 0
  substitutes_depth (expanded_substitute fs is) = max (nodes_depth fs) (substitutes_depth is)

-- A layout counts like a group: one more than its deepest node.
abbrev pub layout_depth : ExpandedLayout → ℕ
layout_depth l = suc (nodes_depth l.elements)

-- the depth of the nodes in a child of names as written; only a substitute has any
abbrev pub child_depth : (List ℕ → Option ExpandedNodes) → NamesChildView → ℕ
child_depth env (a_substitute ns) = nodes_depth (expand_nodes env ns)
child_depth env other = 0
