-- Which names are of a variable (CSL 1.0.2, Names; Substitute): those that have it among their own
-- variables. In a substitute those count that are directly in it, not in a group, a choice or a macro
-- there. Of several substitutes the first one counts.
use Rattle.std.specs.Prelude.{Bool, false, ◌||◌, List, Option, None, Some}
use Rattle.std.specs.List.{list_any}
use denote.Enum.Bare.{sameb}
use Rattle.csl_elements.specs.contracts.taxonomy.NameVariable.{the_type}
use Rattle.csl_elements.specs.declared.taxonomy.NameVariable.{NameVariable}
use Rattle.csl_elements.specs.declared.taxonomy.Variable.{Variable}
use Rattle.csl_elements.specs.declared.taxonomy.Variable.TheVariants as variable
use Rattle.csl_elements.specs.Names.{NamesNode}
use Rattle.csl_elements.specs.NamesParts.{first_substitute}
use Rattle.csl_elements.specs.Node.{Node, text, call, number, label, date, names, choose, group, Nodes, no_nodes, node, Substitutes, ExpandedNode, expanded_text, expanded_macro, unknown_macro, expanded_number, expanded_label, expanded_date, expanded_names, shorthand, expanded_choose, expanded_group, ExpandedNodes, no_expanded_nodes, expanded_node, ExpandedSubstitutes, no_expanded_substitutes, expanded_substitute}

abbrev pub has_variable : NameVariable → List NameVariable → Bool
has_variable v vs = list_any (λ own. sameb the_type own v) vs

-- a names node of the variable
abbrev pub is_names_of : NameVariable → ExpandedNode → Bool
is_names_of v (expanded_text t d) = false
is_names_of v (expanded_macro fs d) = false
is_names_of v unknown_macro = false
is_names_of v (expanded_number n) = false
is_names_of v (expanded_label u l) = false
is_names_of v (expanded_date n) = false
is_names_of v (expanded_names n is) = has_variable v n.variables
is_names_of v (shorthand written n) = has_variable v written.variables
is_names_of v (expanded_choose cs) = false
is_names_of v (expanded_group delimiter d fs) = false

abbrev pub any_is_names_of : NameVariable → ExpandedNodes → Bool
any_is_names_of v no_expanded_nodes = false
any_is_names_of v (expanded_node f fs) = is_names_of v f || any_is_names_of v fs

-- whether a names node of the variable is directly in the first substitute
abbrev pub substitute_has_names_of : NameVariable → ExpandedSubstitutes → Bool
substitute_has_names_of v no_expanded_substitutes = false
substitute_has_names_of v (expanded_substitute fs is) = any_is_names_of v fs

-- whether names have the variable, or have names of it directly in their substitute
abbrev pub has_alone : Variable → NamesNode → ExpandedSubstitutes → Bool
has_alone (variable.Standard v) n is = false
has_alone (variable.Number v) n is = false
has_alone (variable.Page v) n is = false
has_alone (variable.Name v) n is = has_variable v n.variables || substitute_has_names_of v is
has_alone (variable.Date v) n is = false

-- ---- as written; only private contracts cite these

abbrev pub is_written_names_of : NameVariable → Node → Bool
is_written_names_of v (text t d) = false
is_written_names_of v (call name d) = false
is_written_names_of v (number n) = false
is_written_names_of v (label u l) = false
is_written_names_of v (date d) = false
is_written_names_of v (names n ss) = has_variable v n.variables
is_written_names_of v (choose bs) = false
is_written_names_of v (group delimiter d ns) = false

abbrev pub any_is_written_names_of : NameVariable → Nodes → Bool
any_is_written_names_of v no_nodes = false
any_is_written_names_of v (node n ns) = is_written_names_of v n || any_is_written_names_of v ns

abbrev pub choice_is_written_names_of : NameVariable → Option Nodes → Bool
choice_is_written_names_of v None = false
choice_is_written_names_of v (Some ns) = any_is_written_names_of v ns

abbrev pub substitute_has_written_names_of : NameVariable → Substitutes → Bool
substitute_has_written_names_of v ss = choice_is_written_names_of v (first_substitute ss)

abbrev pub has_written_alone : Variable → NamesNode → Substitutes → Bool
has_written_alone (variable.Standard v) n ss = false
has_written_alone (variable.Number v) n ss = false
has_written_alone (variable.Page v) n ss = false
has_written_alone (variable.Name v) n ss = has_variable v n.variables || substitute_has_written_names_of v ss
has_written_alone (variable.Date v) n ss = false
