-- The variables and kinds that tests of branches name, in nodes with all macros expanded (CSL 1.0.2,
-- Choose). Every branch counts, chosen or not, and so does every substitute. What a layout *tests*
-- is a part of what it names (`Named`).
use Rattle.csl_elements.specs.declared.element.Layout.{Layout}
use Rattle.csl_elements.specs.NamedSet.{NamedSet, empty_named_set, named_union}
use Rattle.csl_elements.specs.Node.{ExpandedNode, expanded_text, expanded_macro, unknown_macro, expanded_number, expanded_label, expanded_date, expanded_names, shorthand, expanded_choose, expanded_group, ExpandedNodes, no_expanded_nodes, expanded_node, ExpandedBranches, no_expanded_branches, expanded_otherwise, expanded_branch, ExpandedSubstitutes, no_expanded_substitutes, expanded_substitute, expand_layout}
use Rattle.csl_elements.specs.View.{view_layout}
use Rattle.csl_style.specs.Expanded.{macro_env}
use Rattle.csl_style.specs.Named.{named_in_tests}
use Rattle.csl_style.specs.Style.{StyleParts}

abbrev mutual
  pub tested_in_node : ExpandedNode → NamedSet
  tested_in_node (expanded_text t d) = empty_named_set
  tested_in_node (expanded_macro fs d) = tested_in_nodes fs
  tested_in_node unknown_macro = empty_named_set
  tested_in_node (expanded_number n) = empty_named_set
  tested_in_node (expanded_label v l) = empty_named_set
  tested_in_node (expanded_date n) = empty_named_set
  tested_in_node (expanded_names n is) = tested_in_substitutes is
  tested_in_node (shorthand written n) = empty_named_set
  tested_in_node (expanded_choose cs) = tested_in_branches cs
  tested_in_node (expanded_group delimiter d fs) = tested_in_nodes fs

  pub tested_in_nodes : ExpandedNodes → NamedSet
  tested_in_nodes no_expanded_nodes = empty_named_set
  tested_in_nodes (expanded_node f fs) = named_union (tested_in_node f) (tested_in_nodes fs)

  pub tested_in_branches : ExpandedBranches → NamedSet
  tested_in_branches no_expanded_branches = empty_named_set
  tested_in_branches (expanded_otherwise fs) = tested_in_nodes fs
  tested_in_branches (expanded_branch ts fs cs) = named_union (named_in_tests ts) (named_union (tested_in_nodes fs) (tested_in_branches cs))

  pub tested_in_substitutes : ExpandedSubstitutes → NamedSet
  tested_in_substitutes no_expanded_substitutes = empty_named_set
  tested_in_substitutes (expanded_substitute fs is) = named_union (tested_in_nodes fs) (tested_in_substitutes is)

-- what the tests of a style's layout name, those in the macros that it reaches included
abbrev pub variables_of_tests : StyleParts → Layout → NamedSet
variables_of_tests style layout = tested_in_nodes (expand_layout (macro_env style) (view_layout layout)).elements
