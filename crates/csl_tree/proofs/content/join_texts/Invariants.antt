use Rattle.std.proofs.Common.{◌≡◌, ◌+◌, ◌-◌, ◌<◌, ◌≤◌, length, take, drop}
use Rattle.csl_tree.specs.Content.{◌++>◌}
use Rattle.csl_tree.specs.FlatChildren.{content_of, IsJoined}
use Rattle.csl_tree.proofs.content.join_texts.Given as goal

-- the children up to `last` are joined; with those from the next one on, they have the content of
-- all
abbrev pub invariant-loop-next : goal.invariant-loop-next
invariant-loop-next l = record {
  from : l.fn.from ≤ l.last;
  order : l.last < l.next;
  within : l.next ≤ length l.children.items;
  before : take l.fn.from l.children.items ≡ take l.fn.from l.fn.children.items;
  same : content_of (drop l.fn.from (take (l.last + 1) l.children.items)) ++> content_of (drop l.next l.children.items) ≡ content_of (drop l.fn.from l.fn.children.items);
  joined : IsJoined (drop l.fn.from (take (l.last + 1) l.children.items));
}

abbrev pub decreases-loop-next : goal.decreases-loop-next
decreases-loop-next l = length l.children.items - l.next
