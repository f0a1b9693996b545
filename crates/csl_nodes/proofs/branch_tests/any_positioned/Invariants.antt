use Rattle.std.proofs.Common.{◌≡◌, drop, map}
use Rattle.csl_context.specs.Context.{render_input}
use Rattle.csl_nodes.specs.Condition.{is_positioned, has_outcome}
use Rattle.csl_nodes.proofs.branch_tests.any_positioned.Given as goal

-- the remaining tests have the outcome if all have
abbrev pub invariant-loop-position : goal.invariant-loop-position
invariant-loop-position g l =
    let test = is_positioned (render_input g.T.EntryLike.answers l.ctx) in
    has_outcome l.outcome (map test (drop l.position-index l.positions)) ≡ has_outcome l.outcome (map test l.positions)
