use Rattle.std.proofs.Common.{subst}
use Rattle.csl_elements.specs.declared.element.Choose.{out-Choose}
use Rattle.csl_elements.specs.View.{view_branch}
use Rattle.csl_entry.specs.Alike.{Each}
use Rattle.csl_render.specs.Plan.{HasTested}
use Rattle.csl_render.proofs.VariableSets.{each_from, each_after, left_within, right_within, tested_within}
use Rattle.csl_render.proofs.choose.tested_variables.Goals as goal

pub loop-branch-init : goal.loop-branch-init
loop-branch-init c s within rest = (
  tested_within c.variables_of_tests-set.result s within (view_branch (out-Choose c.args.choose.now).if_).tests c.variables_of_tests-set.ensures,
  subst (Each (λ b. HasTested s (view_branch b).tests)) c.deref-branch-items.ensures.value rest,
)

pub loop-branch-preserved : goal.loop-branch-preserved
loop-branch-preserved c s within rest =
    let branch = c.branch-item.result in
    let here = tested_within c.variables_of_tests.result s (λ v h. within v (right_within c.loop-branch.set c.variables_of_tests.result c.union-set.result c.union-set.ensures v h)) (view_branch branch).tests c.variables_of_tests.ensures in
    c.loop-branch.invariant s (λ v h. within v (left_within c.loop-branch.set c.variables_of_tests.result c.union-set.result c.union-set.ensures v h))
    (each_from (λ b. HasTested s (view_branch b).tests) c.deref-branch-items.result.now c.loop-branch.branch-index branch c.loop-branch-test.true
    (subst (λ b. HasTested s (view_branch b).tests) c.branch-item.is here) rest)

pub returns : goal.returns
returns c =
    c.loop-branch.invariant c.loop-branch.set (λ v h. h)
    (each_after (λ b. HasTested c.loop-branch.set (view_branch b).tests) c.deref-branch-items.result.now c.loop-branch.branch-index c.loop-branch-test.false)
