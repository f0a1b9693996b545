-- A layout *reaches* a text of the year suffix if one is in it with all macros expanded (CSL 1.0.2,
-- Macro; Disambiguation). The text may be in any group, in any branch of a choice, also one that is
-- never chosen, and in any substitute, also one that is never rendered. A scope whose layout
-- reaches none, and a scope without a layout, render the suffix implicitly, after the first year.
use Rattle.std.specs.Prelude.{Bool, true, false, not, ◌||◌, List, Option, Some, None, option_map}
use Rattle.csl_elements.specs.declared.element.Layout.{Layout}
use Rattle.csl_elements.specs.declared.taxonomy.Variable.{Variable}
use Rattle.csl_elements.specs.declared.taxonomy.Variable.TheVariants as variable
use Rattle.csl_elements.specs.declared.taxonomy.StandardVariable.TheVariants.{YearSuffix}
use Rattle.csl_style.specs.declared.style.settings.Scope.{Scope}
use Rattle.csl_style.specs.Style.{StyleParts, layout_of}
use Rattle.csl_elements.specs.View.{Definition, view_layout}
use Rattle.csl_elements.specs.Node.{Target, of_variable, of_term, of_value, ExpandedNode, expanded_text, expanded_macro, unknown_macro, expanded_number, expanded_label, expanded_date, expanded_names, shorthand, expanded_choose, expanded_group, ExpandedNodes, no_expanded_nodes, expanded_node, ExpandedBranches, no_expanded_branches, expanded_otherwise, expanded_branch, ExpandedSubstitutes, no_expanded_substitutes, expanded_substitute, ExpandedLayout, expand_layout}
use Rattle.csl_style.specs.Expanded.{macro_env}
use Rattle.csl_style.specs.Expansion.{macro_expansion}

-- the layout of a scope, with all macros expanded
abbrev pub reached_layout : Scope → StyleParts → Option ExpandedLayout
reached_layout scope s = option_map (λ l. expand_layout (macro_env s) (view_layout l)) (layout_of s scope)

abbrev pub is_year_suffix : Variable → Bool
is_year_suffix (variable.Standard YearSuffix) = true
is_year_suffix other = false

abbrev pub prints_year_suffix : Target → Bool
prints_year_suffix (of_variable v form) = is_year_suffix v
prints_year_suffix (of_term t form plural) = false
prints_year_suffix (of_value bs) = false

-- Whether a text of the year suffix is in a node, also in a branch that is never chosen and in a
-- substitute that is never rendered.
abbrev mutual
  pub has_year_suffix : ExpandedNode → Bool
  has_year_suffix (expanded_text t d) = prints_year_suffix t
  has_year_suffix (expanded_macro fs d) = any_has_year_suffix fs
  has_year_suffix unknown_macro = false
  has_year_suffix (expanded_number n) = false
  has_year_suffix (expanded_label v l) = false
  has_year_suffix (expanded_date d) = false
  has_year_suffix (expanded_names n is) = substitutes_have_year_suffix is
  has_year_suffix (shorthand written n) = false
  has_year_suffix (expanded_choose cs) = branches_have_year_suffix cs
  has_year_suffix (expanded_group delimiter d fs) = any_has_year_suffix fs

  pub any_has_year_suffix : ExpandedNodes → Bool
  any_has_year_suffix no_expanded_nodes = false
  any_has_year_suffix (expanded_node f fs) = has_year_suffix f || any_has_year_suffix fs

  pub branches_have_year_suffix : ExpandedBranches → Bool
  branches_have_year_suffix no_expanded_branches = false
  branches_have_year_suffix (expanded_otherwise fs) = any_has_year_suffix fs
  branches_have_year_suffix (expanded_branch ts fs cs) = any_has_year_suffix fs || branches_have_year_suffix cs

  pub substitutes_have_year_suffix : ExpandedSubstitutes → Bool
  substitutes_have_year_suffix no_expanded_substitutes = false
  substitutes_have_year_suffix (expanded_substitute fs is) = any_has_year_suffix fs || substitutes_have_year_suffix is

-- no text of the year suffix is in the layout, or there is no layout
abbrev pub is_year_suffix_implicit : Option ExpandedLayout → Bool
is_year_suffix_implicit None = true
is_year_suffix_implicit (Some l) = not (any_has_year_suffix l.elements)

-- the answer for a layout of a style with these macros
abbrev pub is_implicit_in : List Definition → Option Layout → Bool
is_implicit_in ds layout = is_year_suffix_implicit (option_map (λ l. expand_layout (macro_expansion ds) (view_layout l)) layout)
