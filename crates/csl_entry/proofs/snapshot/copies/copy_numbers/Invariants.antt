use Rattle.std.proofs.Common.{◌≡◌, map, take}
use Rattle.lit_model.specs.MaybeTyped.{maybe_view}
use Rattle.lit_model.specs.Numeric.{numeric_view}
use Rattle.csl_entry.specs.Snapshot.{keyed}
use Rattle.csl_entry.proofs.snapshot.copies.copy_numbers.Given as goal

abbrev pub invariant-loop-variable : goal.invariant-loop-variable
invariant-loop-variable l = map (keyed (maybe_view numeric_view)) l.copies.items ≡ map (keyed (maybe_view numeric_view)) (take l.variable-index l.numbers)
