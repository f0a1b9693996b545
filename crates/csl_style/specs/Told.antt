-- What a cite that shows one variable alone tells beside that variable (CSL 1.0.2, Names; Substitute;
-- Choose; Label): what tests of branches name, the variables of labels, and the own variables of names
-- that have the variable or have names of it directly in their substitute. Every branch counts, chosen
-- or not, and so does every substitute. All else that a layout names it does not tell.
use Rattle.std.specs.Prelude.{Bool, true, false}
use Rattle.csl_elements.specs.declared.element.Layout.{Layout}
use Rattle.csl_elements.specs.declared.taxonomy.Variable.{Variable}
use Rattle.csl_elements.specs.NamedSet.{NamedSet, empty_named_set, named_union}
use Rattle.csl_elements.specs.Names.{NamesNode}
use Rattle.csl_elements.specs.Node.{ExpandedNode, expanded_macro, expanded_label, expanded_names, shorthand, expanded_choose, expanded_group, ExpandedNodes, no_expanded_nodes, expanded_node, ExpandedBranches, no_expanded_branches, expanded_otherwise, expanded_branch, ExpandedSubstitutes, no_expanded_substitutes, expanded_substitute, expand_layout}
use Rattle.csl_elements.specs.View.{view_layout}
use Rattle.csl_style.specs.Expanded.{macro_env}
use Rattle.csl_style.specs.Named.{named_in_names, named_in_tests, the_number_or_page}
use Rattle.csl_style.specs.NamesOf.{has_alone}
use Rattle.csl_style.specs.Style.{StyleParts}

-- the variables of names that tell their own, else none
abbrev pub names_if : Bool → NamesNode → NamedSet
names_if true n = named_in_names n
names_if false n = empty_named_set

-- the own variables of names that have the variable, or names of it in their substitute
abbrev pub names_told : Variable → NamesNode → ExpandedSubstitutes → NamedSet
names_told v n is = names_if (has_alone v n is) n

-- what counts beside the variable itself
abbrev mutual
  pub told_in_node : Variable → ExpandedNode → NamedSet
  told_in_node v (expanded_macro fs d) = told_in_nodes v fs
  told_in_node v (expanded_label u l) = the_number_or_page u
  told_in_node v (expanded_names n is) = named_union (names_told v n is) (told_in_substitutes v is)
  told_in_node v (shorthand written n) = named_union (names_told v written no_expanded_substitutes) (names_told v n no_expanded_substitutes)
  told_in_node v (expanded_choose cs) = told_in_branches v cs
  told_in_node v (expanded_group delimiter d fs) = told_in_nodes v fs
  told_in_node v other = empty_named_set

  pub told_in_nodes : Variable → ExpandedNodes → NamedSet
  told_in_nodes v no_expanded_nodes = empty_named_set
  told_in_nodes v (expanded_node f fs) = named_union (told_in_node v f) (told_in_nodes v fs)

  pub told_in_branches : Variable → ExpandedBranches → NamedSet
  told_in_branches v no_expanded_branches = empty_named_set
  told_in_branches v (expanded_otherwise fs) = told_in_nodes v fs
  told_in_branches v (expanded_branch ts fs cs) = named_union (named_in_tests ts) (named_union (told_in_nodes v fs) (told_in_branches v cs))

  pub told_in_substitutes : Variable → ExpandedSubstitutes → NamedSet
  told_in_substitutes v no_expanded_substitutes = empty_named_set
  told_in_substitutes v (expanded_substitute fs is) = named_union (told_in_nodes v fs) (told_in_substitutes v is)

-- the same of a style's layout, with all macros expanded
abbrev pub told_beside : Variable → StyleParts → Layout → NamedSet
told_beside v style layout = told_in_nodes v (expand_layout (macro_env style) (view_layout layout)).elements
