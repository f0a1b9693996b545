use Rattle.csl_elements.specs.VariableSet.{members_of}
use Rattle.csl_context.proofs.state.ContextState.of.Goals as goal

pub returns : goal.returns
unfolding members_of
returns c = λ i. record {
  suppressed = λ v. c.of.ensures v i;
  suppressing = c.args.left.now.suppressing;
  first_date_seen = c.args.left.now.first_date_seen;
  first_names = c.in_ok-first_names.ensures i;
}
