use Rattle.std.proofs.Common.{◌≡◌, map, take}
use Rattle.lit_model.specs.Work.{works}
use Rattle.lit_model.proofs.entry.Entry.+copy_parents.Given as goal

abbrev pub invariant-loop-parent : goal.invariant-loop-parent
invariant-loop-parent l = map works l.copies.items ≡ map works (take l.parent-index l.parent-items)
