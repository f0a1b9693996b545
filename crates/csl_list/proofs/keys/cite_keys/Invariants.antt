use Rattle.std.specs.Prelude.{◌≡◌, length}
use Rattle.csl_list.proofs.keys.cite_keys.Given as goal

abbrev pub invariant-loop-work : goal.invariant-loop-work
invariant-loop-work l = length l.keys.items ≡ l.work-index
