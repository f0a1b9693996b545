use Rattle.std.proofs.Common.{◌≡◌, ◌<◌, ◌-◌, length, slice_index, suc}
use Rattle.csl_style.proofs.Marks.{FirstMarked}
use Rattle.csl_style.proofs.Searching.{IsSearch}
use Rattle.csl_style.proofs.cycles.reach.Given as goal

abbrev pub invariant-loop-next : goal.invariant-loop-next
invariant-loop-next l = IsSearch l.graph l.from l.seen.items l.found.items l.next

abbrev pub decreases-loop-next : goal.decreases-loop-next
decreases-loop-next l = suc (length l.graph) - l.next

-- the search goes on, with the places of the row before this one marked
abbrev pub invariant-loop-to : goal.invariant-loop-to
invariant-loop-to l = record {
  search : IsSearch l.graph l.from l.seen.items l.found.items l.next;
  unfinished : l.next < length l.found.items;
  here : slice_index l.found.items l.next ≡ l.at;
  marked : FirstMarked l.seen.items l.to-items l.to-index;
}
