use Rattle.std.proofs.Common.{◌≡◌, map, take}
use Rattle.lit_model.specs.Text.{chunks}
use Rattle.csl_entry.specs.Snapshot.{keyed}
use Rattle.csl_entry.proofs.snapshot.copies.copy_texts.Given as goal

abbrev pub invariant-loop-variable : goal.invariant-loop-variable
invariant-loop-variable l = map (keyed chunks) l.copies.items ≡ map (keyed chunks) (take l.variable-index l.texts)
