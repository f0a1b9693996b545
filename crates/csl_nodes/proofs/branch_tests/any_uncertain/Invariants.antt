use Rattle.std.proofs.Common.{◌≡◌, drop, map}
use Rattle.csl_context.specs.Context.{render_input}
use Rattle.csl_nodes.specs.Condition.{is_uncertain, has_outcome}
use Rattle.csl_nodes.proofs.branch_tests.any_uncertain.Given as goal

-- the remaining tests have the outcome if all have
abbrev pub invariant-loop-variable : goal.invariant-loop-variable
invariant-loop-variable g l =
    let test = is_uncertain (render_input g.T.EntryLike.answers l.ctx) l.ctx.state in
    has_outcome l.outcome (map test (drop l.variable-index l.variables)) ≡ has_outcome l.outcome (map test l.variables)
