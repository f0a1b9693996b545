use Rattle.std.specs.Prelude.{◌≡◌, length}
use Rattle.csl_list.proofs.keys.printed_order.Given as goal

abbrev pub invariant-loop-item : goal.invariant-loop-item
invariant-loop-item g l = length l.texts.items ≡ l.item-index
