use Rattle.std.proofs.Common.{◌≡◌, length}
use Rattle.csl_style.specs.AllWithin.{AreKnownSizes}
use Rattle.csl_style.proofs.all_within.known_sizes.Given as goal

abbrev pub invariant-loop-at : goal.invariant-loop-at
invariant-loop-at l =
    (l.macros ≡ l.style.macros)
    × (length l.known.items ≡ length l.style.macros)
    × AreKnownSizes l.style l.known.items
