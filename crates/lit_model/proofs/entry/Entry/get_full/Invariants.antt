use Rattle.std.proofs.Common.{◌≡◌}
use Rattle.lit_model.specs.Select.{full_of}
use Rattle.lit_model.proofs.entry.Entry.get_full.Given as goal

abbrev pub invariant-loop-entry : goal.invariant-loop-entry
invariant-loop-entry l = full_of l.entry ≡ full_of l.self
