use Rattle.std.proofs.Common.{ap, rules}
use Rattle.std.specs.BTreeMap.{is_at}
use Rattle.std.specs.List.{list_any}
use Rattle.std.proofs.lemmas.List.Elements.{same_from_all_zip}
use Rattle.csl_elements.specs.contracts.taxonomy.VariableOrd.TheImpl.{cmp-value as cmp_variable}
use Rattle.csl_elements.specs.VariableSet.{members_of}
use Rattle.csl_context.proofs.context.LeftState.clone.Goals as goal

pub returns : goal.returns
unfolding members_of
returns c =
    let same = same_from_all_zip _ _ _ c.in_ok-suppressed.ensures.cases (λ v copy e. search rules) in
    λ i. record {
      suppressed = λ v. ap (list_any (is_at (cmp_variable.it v))) same i;
      suppressing = c.args.self.now.suppressing;
      first_date_seen = c.args.self.now.first_date_seen;
      first_names = c.in_ok-first_names.ensures i;
    }
