use Rattle.std.specs.Prelude.{◌≡◌, length}
use Rattle.csl_list.proofs.list_style.key_layouts.Given as goal

abbrev pub invariant-loop-key : goal.invariant-loop-key
invariant-loop-key l = length l.layouts.items ≡ l.key-index
