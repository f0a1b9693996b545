use Rattle.std.specs.Prelude.{◌≡◌, map, take}
use Rattle.std.specs.List.{range_with_len}
use Rattle.csl_entry.specs.Numbers.{citation_number}
use Rattle.csl_list.proofs.bibliography.items.Given as goal

-- the items so far are the works so far, with their places as numbers
abbrev pub invariant-loop-place : goal.invariant-loop-place
invariant-loop-place g l =
    (map (λ item. item.work) l.items.items ≡ take l.place l.order)
    × (map (λ item. citation_number item.number) l.items.items ≡ range_with_len 0 l.place)
