use Rattle.std.proofs.Common.{◌≡◌, length}
use Rattle.csl_finish.specs.Letters.{words}
use Rattle.csl_finish.proofs.punctuation.push_merged.Given as goal

abbrev pub invariant-loop-before : goal.invariant-loop-before
invariant-loop-before l = words l.stay.items ≡ words l.initial.stay.items

abbrev pub decreases-loop-before : goal.decreases-loop-before
decreases-loop-before l = length l.stay.items
