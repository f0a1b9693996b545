use Rattle.std.specs.Prelude.{◌≡◌, length}
use Rattle.csl_list.proofs.given_names.steps_of_names.Given as goal

abbrev pub invariant-loop-index : goal.invariant-loop-index
invariant-loop-index l = length l.steps.items ≡ l.index
