use Rattle.std.proofs.Common.{arith, length, ◌<◌, ◌-◌}
use Rattle.std.proofs.lemmas.Fn.{says_at}
use Rattle.csl_tree.proofs.Rejects.{answers_at, rejects_more}
use Rattle.csl_tree.proofs.stack.NonEmptyStack.last_accepted.Goals as goal

pub returns-then-predicate : goal.returns-then-predicate
returns-then-predicate g c =
    let within : c.loop-i.i - 1 < length c.args.self.now = omega (arith, c.loop-i.invariant.within, c.loop-i-test.true) in
    let is = rw c.self.view_is at c.index.ensures in
    record {
      found = (
        within,
        (
          answers_at g.F.Fn c.args.predicate c.args.self.now c.index.result.now (c.loop-i.i - 1) within is _ (says_at g.F.Fn c.predicate.ensures c.if-predicate.true),
          λ k d low high. c.loop-i.invariant.rejects k d (omega (arith, c.loop-i-test.true)) high,
        ),
      );
      none = tt;
    }

pub loop-i-preserved : goal.loop-i-preserved
loop-i-preserved g c =
    let within : c.loop-i.i - 1 < length c.args.self.now = omega (arith, c.loop-i.invariant.within, c.loop-i-test.true) in
    let is = rw c.self.view_is at c.index.ensures in
    record {
      within = omega arith;
      rejects = rejects_more g.F.Fn c.args.predicate c.args.self.now c.index.result.now (c.loop-i.i - 1) within is c.loop-i.i (omega arith) (says_at g.F.Fn c.predicate.ensures c.if-predicate.false) c.loop-i.invariant.rejects;
    }

pub returns-clause-none : goal.returns-clause-none
returns-clause-none g c k d low high = c.loop-i.invariant.rejects k d (omega (arith, c.loop-i-test.false)) high
