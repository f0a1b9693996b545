use Rattle.std.proofs.Common.{◌≡◌, length}
use Rattle.csl_style.specs.AllNodes.{remaining_nodes}
use Rattle.csl_style.proofs.all_nodes.RemainingNodes.next.Given as goal

-- only lists without nodes are taken away
abbrev pub invariant-loop-self : goal.invariant-loop-self
invariant-loop-self l = remaining_nodes l.self ≡ remaining_nodes l.fn.self

abbrev pub decreases-loop-self : goal.decreases-loop-self
decreases-loop-self l = length l.self.lists.items
