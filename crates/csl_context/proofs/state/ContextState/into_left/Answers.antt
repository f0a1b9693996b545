use Rattle.std.proofs.Common.{option_map}
use Rattle.csl_entry.specs.NameProperties.{name_properties}
use Rattle.csl_context.proofs.state.ContextState.into_left.Goals as goal

pub returns : goal.returns
returns c = λ i. record {
  suppressed = c.in_ok-suppressed.ensures i;
  suppressing = c.args.self.suppressing;
  first_date_seen = c.args.self.first_date_seen;
  first_names = option_map name_properties c.args.self.first_names;
}
