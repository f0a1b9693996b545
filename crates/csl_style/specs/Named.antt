-- A layout *names* these variables and kinds of entries in itself and in the macros that it reaches
-- (CSL 1.0.2, Rendering Elements; Choose; Substitute):
-- - the variable of a text, a number, a label and a date, and the variables of names;
-- - those in the tests of a branch: variables in `is-numeric`, `is-uncertain-date` and `variable`,
--   and kinds in `type`.
-- Every branch counts, chosen or not, and so does every substitute. A names node without children
-- in a substitute names its variables as written and as rendered. A macro that the style lacks
-- names nothing. The four variables of the citation (`is_of_citation`) are not named. Only private
-- contracts cite `named_in_child` and `named_in_branch`.
use Rattle.std.specs.Prelude.{ℕ, false, not, ◌&&◌, List, [], ◌∷◌, Option, Some, None}
use Rattle.std.specs.BTreeMap.{is_at}
use Rattle.csl_elements.specs.declared.taxonomy.Variable.{Variable}
use Rattle.csl_elements.specs.declared.taxonomy.Variable.TheVariants as variable
use Rattle.csl_elements.specs.declared.taxonomy.NumberOrPageVariable.{NumberOrPageVariable}
use Rattle.csl_elements.specs.declared.taxonomy.NumberOrPageVariable.TheVariants as either
use Rattle.csl_elements.specs.declared.taxonomy.NameVariable.{NameVariable}
use Rattle.csl_elements.specs.declared.taxonomy.DateVariable.{DateVariable}
use Rattle.csl_elements.specs.declared.taxonomy.Kind.{Kind}
use Rattle.csl_elements.specs.contracts.taxonomy.VariableOrd.TheImpl.{cmp-value as cmp_variable}
use Rattle.csl_elements.specs.contracts.taxonomy.KindOrd.TheImpl.{cmp-value as cmp_kind}
pub use Rattle.csl_elements.specs.NamedSet.{NamedItem, a_variable, a_kind, NamedSet, empty_named_set}
unfoldable pub use Rattle.csl_elements.specs.NamedSet.{named_union}
use Rattle.csl_elements.specs.Names.{NamesNode}
use Rattle.csl_elements.specs.Taxonomy.{is_of_citation}
use Rattle.csl_elements.specs.View.{NamesChildView, a_substitute, BranchView}
use Rattle.csl_elements.specs.Node.{Target, of_variable, of_term, of_value, Tests, ExpandedNode, expanded_text, expanded_macro, unknown_macro, expanded_number, expanded_label, expanded_date, expanded_names, shorthand, expanded_choose, expanded_group, ExpandedNodes, no_expanded_nodes, expanded_node, ExpandedBranches, no_expanded_branches, expanded_otherwise, expanded_branch, ExpandedSubstitutes, no_expanded_substitutes, expanded_substitute, expand_nodes}

-- the set of one variable, or of none if it is one of the citation
unfoldable pub the_variable : Variable → NamedSet
the_variable v (a_variable u) = is_at (cmp_variable.it v) u && not (is_of_citation v)
the_variable v (a_kind k) = false

unfoldable pub the_kind : Kind → NamedSet
the_kind k (a_variable u) = false
the_kind k (a_kind l) = is_at (cmp_kind.it k) l

abbrev pub the_date : DateVariable → NamedSet
the_date v = the_variable (variable.Date v)

abbrev pub the_name : NameVariable → NamedSet
the_name v = the_variable (variable.Name v)

abbrev pub the_number_or_page : NumberOrPageVariable → NamedSet
the_number_or_page (either.Number v) = the_variable (variable.Number v)
the_number_or_page (either.Page v) = the_variable (variable.Page v)

-- ---- lists

abbrev pub each_of : {A : Type 0} → (A → NamedSet) → List A → NamedSet
each_of f [] = empty_named_set
each_of f (x ∷ xs) = named_union (f x) (each_of f xs)

abbrev pub each_if : {A : Type 0} → (A → NamedSet) → Option (List A) → NamedSet
each_if f None = empty_named_set
each_if f (Some xs) = each_of f xs

-- ---- nodes, with all macros expanded

abbrev pub named_in_target : Target → NamedSet
named_in_target (of_variable v form) = the_variable v
named_in_target (of_term t form plural) = empty_named_set
named_in_target (of_value bs) = empty_named_set

abbrev pub date_if : Option DateVariable → NamedSet
date_if None = empty_named_set
date_if (Some v) = the_date v

-- the variables and kinds in the tests of a branch that ask the entry; the other tests ask the
-- citation
abbrev pub named_in_tests : Tests → NamedSet
named_in_tests t = named_union (each_if the_variable t.is_numeric) (named_union (each_if the_date t.is_uncertain_date) (named_union (each_if the_kind t.type_) (each_if the_variable t.variable)))

abbrev pub named_in_names : NamesNode → NamedSet
named_in_names n = each_of the_name n.variables

abbrev mutual
  pub named_in_node : ExpandedNode → NamedSet
  named_in_node (expanded_text t d) = named_in_target t
  named_in_node (expanded_macro fs d) = named_in_nodes fs
  named_in_node unknown_macro = empty_named_set
  named_in_node (expanded_number n) = the_number_or_page n.variable
  named_in_node (expanded_label v l) = the_number_or_page v
  named_in_node (expanded_date n) = date_if n.variable
  named_in_node (expanded_names n is) = named_union (named_in_names n) (named_in_substitutes is)
  named_in_node (shorthand written n) = named_union (named_in_names written) (named_in_names n)
  named_in_node (expanded_choose cs) = named_in_branches cs
  named_in_node (expanded_group delimiter d fs) = named_in_nodes fs

  pub named_in_nodes : ExpandedNodes → NamedSet
  named_in_nodes no_expanded_nodes = empty_named_set
  named_in_nodes (expanded_node f fs) = named_union (named_in_node f) (named_in_nodes fs)

  -- every branch, chosen or not
  pub named_in_branches : ExpandedBranches → NamedSet
  named_in_branches no_expanded_branches = empty_named_set
  named_in_branches (expanded_otherwise fs) = named_in_nodes fs
  named_in_branches (expanded_branch ts fs cs) = named_union (named_in_tests ts) (named_union (named_in_nodes fs) (named_in_branches cs))

  -- every substitute, also those that are never rendered
  pub named_in_substitutes : ExpandedSubstitutes → NamedSet
  named_in_substitutes no_expanded_substitutes = empty_named_set
  named_in_substitutes (expanded_substitute fs is) = named_union (named_in_nodes fs) (named_in_substitutes is)

-- ---- as written

-- a child of a names node, without the variables of the node
abbrev pub named_in_child : (List ℕ → Option ExpandedNodes) → NamesChildView → NamedSet
named_in_child env (a_substitute ns) = named_in_nodes (expand_nodes env ns)
named_in_child env other = empty_named_set

-- a branch with its tests
abbrev pub named_in_branch : (List ℕ → Option ExpandedNodes) → BranchView → NamedSet
named_in_branch env p = named_union (named_in_tests p.tests) (named_in_nodes (expand_nodes env p.nodes))
