-- Each turn takes one of the remaining entries and adds only its parents.
use Rattle.std.proofs.Common.{◌<◌}
use denote.Param.Weighed.{most}
use Rattle.lit_model.proofs.Ancestors.{size, lineages}
use Rattle.lit_model.proofs.entry.Entry.+drop.Given as goal

abbrev pub invariant-loop-entry : goal.invariant-loop-entry
invariant-loop-entry l = most size l.remaining.items < size l.fn.self

abbrev pub decreases-loop-entry : goal.decreases-loop-entry
decreases-loop-entry l = lineages l.remaining.items
