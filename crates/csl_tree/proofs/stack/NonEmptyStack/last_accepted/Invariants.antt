use Rattle.std.proofs.Common.{◌≤◌, length}
use Rattle.csl_tree.specs.Stack.{RejectsFrom}
use Rattle.csl_tree.proofs.stack.NonEmptyStack.last_accepted.Given as goal

abbrev pub invariant-loop-i : goal.invariant-loop-i
invariant-loop-i g l = record {
  within : l.i ≤ length l.self;
  rejects : RejectsFrom g.F.Fn l.predicate l.self l.i;
}

abbrev pub decreases-loop-i : goal.decreases-loop-i
decreases-loop-i g l = l.i
