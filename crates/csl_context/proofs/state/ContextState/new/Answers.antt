use Rattle.std.proofs.Common.{false, None}
use Rattle.csl_context.proofs.state.ContextState.new.Goals as goal

pub returns : goal.returns
returns c = λ i. record { suppressed = λ v. c.new.ensures v i; suppressing = false; first_date_seen = false; first_names = None }
