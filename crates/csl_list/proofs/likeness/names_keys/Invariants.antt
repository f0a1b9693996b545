use Rattle.std.specs.Prelude.{◌≡◌, length}
use Rattle.csl_list.proofs.likeness.names_keys.Given as goal

abbrev pub invariant-loop-cite : goal.invariant-loop-cite
invariant-loop-cite l = length l.keys.items ≡ l.cite-index
