use Rattle.std.proofs.Common.{◌≡◌, drop, map}
use Rattle.csl_context.specs.Context.{render_input}
use Rattle.csl_nodes.specs.Condition.{is_of_kind, has_outcome}
use Rattle.csl_nodes.proofs.branch_tests.any_of_kind.Given as goal

-- the remaining tests have the outcome if all have
abbrev pub invariant-loop-kind : goal.invariant-loop-kind
invariant-loop-kind g l =
    let test = is_of_kind (render_input g.T.EntryLike.answers l.ctx) in
    has_outcome l.outcome (map test (drop l.kind-index l.kinds)) ≡ has_outcome l.outcome (map test l.kinds)
