use Rattle.std.specs.Prelude.{◌<◌}
use Rattle.std.specs.List.{AllWithin}
use Rattle.csl_list.proofs.listed.unknown_item.Given as goal

-- the cites so far are of works that are there
abbrev pub invariant-loop-i : goal.invariant-loop-i
invariant-loop-i l = AllWithin (λ item. item.work < l.works) l.items 0 l.i
