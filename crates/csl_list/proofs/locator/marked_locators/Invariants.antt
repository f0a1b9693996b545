use Rattle.std.specs.Prelude.{◌≡◌, length}
use Rattle.csl_list.proofs.locator.marked_locators.Given as goal

abbrev pub invariant-loop-item : goal.invariant-loop-item
invariant-loop-item l = length l.marked.items ≡ l.item-index
