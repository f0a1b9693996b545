use Rattle.std.proofs.Common.{◌≡◌, None, sym, ◌∙◌, rules}
use Rattle.csl_elements.specs.View.{view_node, view_nodes}
use Rattle.csl_style.specs.Reached.{Takes}
use Rattle.csl_style.proofs.SuffixSearch.{search_starts, search_goes_on, search_finds, search_ends}
use Rattle.csl_style.proofs.Walks.{next_falls}
use Rattle.csl_style.proofs.year_suffix.any_has_year_suffix.Goals as goal

pub loop-reached-init : goal.loop-reached-init
loop-reached-init c = search_starts c.args.macros.now (view_nodes c.args.elements.now) c.in_ok-reached.reached c.in_ok-reached.ensures

pub returns-then-is_suffix_text : goal.returns-then-is_suffix_text
returns-then-is_suffix_text c =
    let v = view_node c.in-Some.node.now in
    let takes : Takes v c.loop-reached.reached c.next.new.self = search rules in
    sym (search_finds c.args.macros.now (view_nodes c.args.elements.now) v c.loop-reached.reached c.next.new.self c.loop-reached.invariant takes (sym c.is_suffix_text.ensures ∙ c.if-is_suffix_text.true))

pub loop-reached-smaller : goal.loop-reached-smaller
loop-reached-smaller c = next_falls (view_node c.in-Some.node.now) c.loop-reached.reached c.next.new.self (search rules)

pub loop-reached-preserved : goal.loop-reached-preserved
loop-reached-preserved c =
    let v = view_node c.in-Some.node.now in
    let takes : Takes v c.loop-reached.reached c.next.new.self = search rules in
    search_goes_on c.args.macros.now (view_nodes c.args.elements.now) v c.loop-reached.reached c.next.new.self c.loop-reached.invariant takes (sym c.is_suffix_text.ensures ∙ c.if-is_suffix_text.false)

pub returns : goal.returns
returns c =
    let none : c.in_ok-node.field-0 ≡ None = search rules in
    sym (search_ends c.args.macros.now (view_nodes c.args.elements.now) c.loop-reached.reached c.loop-reached.invariant (c.in_ok-node.ensures.end none))
