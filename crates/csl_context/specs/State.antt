-- A node leaves the *state* for the nodes after it: the suppressed variables, the suppressing
-- switch, whether a date was rendered, even to nothing, and the forms of the names that were
-- printed first (CSL 1.0.2, Names, Substitute; Date). Later names change nothing.
-- A node takes the *inherited* values from those around it: the formatting, the delimiter or none,
-- the options of names that are set, whether an odd number of quotes is around it, and whether
-- texts lose their periods (Formatting, Delimiter, Inheritable Name Options, Quotes,
-- Strip-periods). Only the parity of quotes counts, so no depth grows too large. The state that a
-- rendering leaves is a value too (`left_state_view`). A caller may keep it and begin another
-- context with it.
use Rattle.std.specs.Prelude.{ℕ, Bool, List, Option, if◌then◌else◌, option_map}
use Rattle.csl_elements.specs.declared.formatting.Formatting as partial
use Rattle.csl_elements.specs.declared.taxonomy.Variable.{Variable}
use Rattle.csl_elements.specs.NamesOptions.{PartialOptions}
use Rattle.csl_elements.specs.VariableSet.{with_variable, members_of}
use Rattle.csl_tree.specs.declared.formatting.Formatting.{Formatting}
use Rattle.csl_tree.specs.Formatting.{apply_formatting}
use Rattle.csl_entry.specs.NameProperties.{NameProperties, name_properties}
use Rattle.csl_context.specs.declared.context.LeftState.{LeftState}

-- The set of the suppressed variables; whether a lookup for printing suppresses its variable;
-- whether a date was rendered, even to nothing; the forms of the names that were printed first.
pub record State : Type 0 where
  pub suppressed : Variable → Bool
  pub suppressing : Bool
  pub first_date_seen : Bool
  pub first_names : Option NameProperties

abbrev pub is_suppressed : State → Variable → Bool
is_suppressed s v = s.suppressed v

-- the state after a lookup for printing: if the switch is on, the variable is suppressed
abbrev pub state_after_resolve : Variable → State → State
state_after_resolve v s = record s { suppressed = if s.suppressing then with_variable v s.suppressed else s.suppressed }

-- The formatting; the delimiter between children, if any; the options of names that are set;
-- whether an odd number of quotes is around it; whether its texts lose their periods.
pub record Inherited : Type 0 where
  pub formatting : Formatting
  pub delimiter : Option (List ℕ)
  pub options : PartialOptions
  pub in_quotes : Bool
  pub strip_periods : Bool

-- the inherited values inside a node's formatting
abbrev pub with_node_formatting : partial.Formatting → Inherited → Inherited
with_node_formatting f inh = record inh { formatting = apply_formatting f inh.formatting }

-- the state that a rendering leaves, as a value of the code
abbrev pub left_state_view : LeftState → State
left_state_view l = record {
  suppressed = members_of l.suppressed;
  suppressing = l.suppressing;
  first_date_seen = l.first_date_seen;
  first_names = option_map name_properties l.first_names;
}
