use Rattle.std.proofs.Common.{subst}
use Rattle.csl_render.specs.Plan.{HasTested}
use Rattle.csl_render.proofs.VariableSets.{each_within, tests_out}
use Rattle.csl_render.proofs.choose.variables_of_tests.Goals as goal

pub returns : goal.returns
returns c =
    let all = c.with_tested_dates.result in
    let two = c.with_tested-set-2.result in
    let one = c.with_tested-set.result in
    subst (HasTested all) (tests_out c.args.branch.now) (
      each_within one all (λ v h. c.with_tested_dates.ensures.kept v (c.with_tested-set-2.ensures.kept v h)) (λ v. v) _ c.with_tested-set.ensures.has,
      c.with_tested_dates.ensures.has,
      each_within two all c.with_tested_dates.ensures.kept (λ v. v) _ c.with_tested-set-2.ensures.has,
    )
