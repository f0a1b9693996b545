use Rattle.std.proofs.Common.{◌≡◌, length, false}
use Rattle.csl_context.specs.Context.{render_input}
use Rattle.csl_nodes.specs.BranchConditions.{arms_from, conditions_from, tests_of}
use Rattle.csl_nodes.proofs.branch_conditions.BranchConditionIterIterator.next.Given as goal

-- the remaining conditions are unchanged
abbrev pub invariant-loop-holds : goal.invariant-loop-holds
invariant-loop-holds g l =
    let now = l.fn.self.ctx.now in
    let left = conditions_from (render_input g.T.EntryLike.answers now) now.state (tests_of l.fn.self.branch.now) in
    record {
      context : l.self.ctx ≡ l.fn.self.ctx;
      branch : l.self.branch ≡ l.fn.self.branch;
      going : l.self.ended ≡ false;
      left : left l.self.pos l.self.index ≡ left l.fn.self.pos l.fn.self.index;
    }

abbrev pub decreases-loop-holds : goal.decreases-loop-holds
decreases-loop-holds g l = length (arms_from l.self.pos)
