use Rattle.std.specs.Prelude.{◌≡◌, length}
use Rattle.csl_list.proofs.collapse.links_between.Given as goal

abbrev pub invariant-loop-cite : goal.invariant-loop-cite
invariant-loop-cite g l = length l.links.items ≡ l.cite-index
