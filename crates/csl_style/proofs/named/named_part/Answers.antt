use Rattle.std.proofs.Common.{◌≡◌, None, rules}
use Rattle.csl_elements.specs.NamedSet.{named_set}
use Rattle.csl_elements.specs.View.{view_node, view_nodes}
use Rattle.csl_style.specs.NamedWalk.{part_itself, part_in}
use Rattle.csl_style.specs.Reached.{IsStart, Takes}
use Rattle.csl_style.proofs.NamedNodes.{part_adds_up}
use Rattle.csl_style.proofs.Walks.{at_start, at_next, at_end, next_falls}
use Rattle.csl_style.proofs.named.named_part.Goals as goal

pub loop-reached-init : goal.loop-reached-init
loop-reached-init c =
    let part = c.args.part in
    let ms = c.args.style.now.macros in
    let ns = view_nodes c.args.layout.now.elements.items in
    let reached = c.in_ok-reached.reached in
    let starts : IsStart ms ns reached = rw (c.acyclic_macros-macros.ensures, c.deref.ensures.value) at c.in_ok-reached.ensures in
    rw c.empty_named-named.ensures (at_start (part_itself part) (part_in part) (part_adds_up part) ms ns reached starts)

pub loop-reached-smaller : goal.loop-reached-smaller
loop-reached-smaller c = next_falls (view_node c.in-Some.node.now) c.loop-reached.reached c.next.new.self (search rules)

pub loop-reached-preserved : goal.loop-reached-preserved
loop-reached-preserved c =
    let part = c.args.part in
    let v = view_node c.in-Some.node.now in
    let takes : Takes v c.loop-reached.reached c.next.new.self = search rules in
    at_next (part_itself part) (part_in part) (part_adds_up part) c.args.style.now.macros (view_nodes c.args.layout.now.elements.items) (named_set c.loop-reached.named) (named_set c.add_part.new.named) v c.loop-reached.reached c.next.new.self
    c.loop-reached.invariant takes c.in_ok-add_part.ensures

pub returns : goal.returns
returns c =
    let part = c.args.part in
    let none : c.in_ok-node.field-0 ≡ None = search rules in
    at_end (part_itself part) (part_in part) (part_adds_up part) c.args.style.now.macros (view_nodes c.args.layout.now.elements.items) (named_set c.loop-reached.named) c.loop-reached.reached c.loop-reached.invariant (c.in_ok-node.ensures.end none)
