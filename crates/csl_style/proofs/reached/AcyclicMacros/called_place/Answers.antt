use Rattle.std.proofs.Common.{◌≡◌, Some, sym, ◌∙◌, rules}
use Rattle.csl_elements.specs.View.{definitions, view_node}
use Rattle.csl_style.specs.AllNodes.{called_name}
use Rattle.csl_style.proofs.PlacesByName.{within-list}
use Rattle.csl_style.proofs.Walks.{call_at}
use Rattle.csl_style.proofs.reached.AcyclicMacros.called_place.Goals as goal

pub returns-clause-within : goal.returns-clause-within
returns-clause-within c =
    let name = c.in_ok-called_name.field-0.now in
    rw (← c.self.view_is) (within-list c.self.inside.items.now name c.get.result (sym (c.self.invariant.1 name) ∙ sym c.get.ensures))

pub returns-clause-call : goal.returns-clause-call
returns-clause-call c =
    let ds = definitions c.self.inside.items.now in
    let n = view_node c.args.node.now in
    let name = c.in_ok-called_name.field-0.now in
    let named : called_name n ≡ Some name = search rules in
    rw (← c.self.view_is) (call_at ds n name named c.self.invariant.0 c.get.result (sym (c.self.invariant.1 name) ∙ sym c.get.ensures))
