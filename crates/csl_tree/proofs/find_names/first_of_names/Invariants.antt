use Rattle.std.proofs.Common.{◌≡◌, ◌+◌, true, drop}
use Rattle.csl_tree.specs.FindNames.{here_index, any_is_here}
use Rattle.csl_tree.proofs.find_names.first_of_names.Given as goal

abbrev pub invariant-loop-i : goal.invariant-loop-i
invariant-loop-i l = (here_index l.items.items ≡ here_index (drop l.i l.items.items) + l.i) × (any_is_here (drop l.i l.items.items) ≡ true)
