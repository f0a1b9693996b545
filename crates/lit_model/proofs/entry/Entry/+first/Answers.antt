use Rattle.std.proofs.Common.{◌≡◌, Some, None, ◌<◌, length}
use Rattle.lit_model.specs.Entry.{preorder}
use Rattle.csl_common.specs.Lists.{first_some}
use Rattle.lit_model.proofs.Preorder.{first_some_here, first_some_turn}
use Rattle.lit_model.proofs.entry.Entry.+first.Goals as goal

pub returns-in-Some : goal.returns-in-Some
returns-in-Some g t c = λ f by.
    let own : Some c.in-Some.found.now ≡ f c.args.self.now = by c.args.self (Some c.in-Some.found) c.in-Some.ensures in
    rw (first_some_here f c.args.self.now, ← own)

pub loop-parent-init : goal.loop-parent-init
loop-parent-init g t c = λ f by.
    let own : None ≡ f c.args.self.now = by c.args.self None c.in_default.ensures in
    rw (first_some_here f c.args.self.now, ← own, c.deref-parent-items.ensures.value)

pub returns-in-Some-first : goal.returns-in-Some-first
returns-in-Some-first g t c = λ f by.
    let found : Some c.in-Some-first.found.now ≡ first_some f (preorder c.parent-item.result) = c.in-Some-first.ensures f by in
    let here : c.loop-parent.parent-index < length c.deref-parent-items.result.now = c.loop-parent-test.true in
    rw (c.loop-parent.invariant f by, first_some_turn f c.deref-parent-items.result.now c.loop-parent.parent-index c.parent-item.result here, ← c.parent-item.is, ← found)

pub loop-parent-preserved : goal.loop-parent-preserved
loop-parent-preserved g t c = λ f by.
    let none : None ≡ first_some f (preorder c.parent-item.result) = c.in_default-first.ensures f by in
    let here : c.loop-parent.parent-index < length c.deref-parent-items.result.now = c.loop-parent-test.true in
    rw (c.loop-parent.invariant f by, first_some_turn f c.deref-parent-items.result.now c.loop-parent.parent-index c.parent-item.result here, ← c.parent-item.is, ← none)
