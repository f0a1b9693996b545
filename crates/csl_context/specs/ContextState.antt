-- The state as a context keeps it (`ContextState`). To suppress a variable takes no memory there.
-- Only private contracts cite this.
use Rattle.std.specs.Prelude.{option_map}
use Rattle.csl_elements.specs.VariableSet.{has}
use Rattle.csl_entry.specs.NameProperties.{name_properties}
use Rattle.csl_context.specs.declared.state.ContextState.{ContextState}
use Rattle.csl_context.specs.State.{State}

abbrev pub context_state_view : ContextState → State
context_state_view c = record {
  suppressed = has c.suppressed;
  suppressing = c.suppressing;
  first_date_seen = c.first_date_seen;
  first_names = option_map name_properties c.first_names;
}
