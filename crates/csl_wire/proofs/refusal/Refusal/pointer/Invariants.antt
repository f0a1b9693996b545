use Rattle.std.proofs.Common.{◌≡◌, ◌≤◌, length, drop}
use Rattle.std.specs.Prelude.{string_bytes}
use Rattle.csl_wire.specs.Refusals.{steps_text}
use Rattle.csl_wire.proofs.refusal.Refusal.pointer.Given as goal

abbrev pub decreases-loop-left : goal.decreases-loop-left
decreases-loop-left l = l.left

-- the text so far is that of the steps so far
abbrev pub invariant-loop-left : goal.invariant-loop-left
invariant-loop-left l = record {
  within : l.left ≤ length l.self.steps.items;
  text : string_bytes l.pointer ≡ steps_text (drop l.left l.self.steps.items);
}
