use Rattle.std.proofs.Common.{sym, ◌∙◌}
use Rattle.csl_elements.specs.declared.taxonomy.DateVariable.TheVariants.{Accessed}
use Rattle.csl_context.specs.Context.{render_input}
use Rattle.csl_nodes.specs.Condition.{is_uncertain}
use Rattle.csl_nodes.proofs.Outcomes.{outcome_at, no_outcome_at}
use Rattle.csl_nodes.proofs.branch_tests.any_uncertain.Goals as goal

pub returns-then-branch-outcome-clause-value : goal.returns-then-branch-outcome-clause-value
returns-then-branch-outcome-clause-value g c =
    let test = is_uncertain (render_input g.T.EntryLike.answers c.args.ctx.now) c.args.ctx.now.state in
    sym (outcome_at test c.args.outcome c.args.variables.now c.loop-variable.variable-index Accessed c.in_ok-is_uncertain.field-0 c.loop-variable-test.true c.in_ok-is_uncertain.ensures.value c.if-branch-outcome.true) ∙ c.loop-variable.invariant

pub loop-variable-preserved : goal.loop-variable-preserved
loop-variable-preserved g c =
    let test = is_uncertain (render_input g.T.EntryLike.answers c.args.ctx.now) c.args.ctx.now.state in
    sym (no_outcome_at test c.args.outcome c.args.variables.now c.loop-variable.variable-index Accessed c.in_ok-is_uncertain.field-0 c.loop-variable-test.true c.in_ok-is_uncertain.ensures.value c.if-branch-outcome.false) ∙ c.loop-variable.invariant
