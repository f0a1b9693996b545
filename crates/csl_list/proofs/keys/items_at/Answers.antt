use Rattle.std.proofs.Common.{get_or, map, ap, ◌∙◌, arith}
use Rattle.std.proofs.lemmas.List.{take_all}
use Rattle.csl_list.proofs.Orders.{items_permuted}
use Rattle.csl_list.proofs.keys.items_at.Goals as goal

pub returns : goal.returns
returns c =
    items_permuted c.args.items.now c.loop-place.picked.items c.args.places.now c.requires
    (c.loop-place.invariant ∙ ap (map (λ place. get_or c.args.items.now place 0)) (take_all c.loop-place.place-index c.args.places.now (omega arith)))
