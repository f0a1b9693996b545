use Rattle.std.proofs.Common.{rules, ◌≡◌, ◌∙◌, map, ap}
use Rattle.csl_finish.proofs.Order.{places_are, order_is}
use Rattle.csl_finish.proofs.keys.order_of.Goals as goal

pub returns-clause-permutation : goal.returns-clause-permutation
returns-clause-permutation g c =
    places_are c.args.keys.items c.in_ok-sorted.sorted.items c.in_ok-order.order.items c.in_ok-sorted.ensures.permutation
    (c.in_ok-order.ensures ∙ ap (map (λ p. p.1)) c.deref.ensures.value)

pub returns-clause-sorted : goal.returns-clause-sorted
returns-clause-sorted g c =
    order_is g.K.Ord.cmp c.args.keys.items c.in_ok-sorted.sorted.items c.in_ok-order.order.items c.in_ok-sorted.ensures.permutation
    c.in_ok-sorted.ensures.sorted
    (c.in_ok-order.ensures ∙ ap (map (λ p. p.1)) c.deref.ensures.value)
