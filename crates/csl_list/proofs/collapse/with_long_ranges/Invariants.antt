use Rattle.std.specs.Prelude.{◌≡◌, length, map}
use Rattle.std.specs.List.{range_with_len}
use Rattle.csl_list.specs.Collapse.{long_at}
use Rattle.csl_list.proofs.collapse.with_long_ranges.Given as goal

abbrev pub invariant-loop-i : goal.invariant-loop-i
invariant-loop-i l = (l.long.items ≡ map (long_at l.links) (range_with_len 0 l.i)) × (length l.long.items ≡ l.i)
