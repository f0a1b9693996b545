use Rattle.std.proofs.Common.{false, None, ap}
use Rattle.std.specs.BTreeMap.{is_at}
use Rattle.std.specs.List.{list_any}
use Rattle.csl_elements.specs.contracts.taxonomy.VariableOrd.TheImpl.{cmp-value as cmp_variable}
use Rattle.csl_elements.specs.VariableSet.{members_of}
use Rattle.csl_context.proofs.context.LeftState.new.Goals as goal

pub returns : goal.returns
unfolding members_of
returns c = λ i. record {
  suppressed = λ v. ap (list_any (is_at (cmp_variable.it v))) c.new.ensures.empty i;
  suppressing = false;
  first_date_seen = false;
  first_names = None;
}
