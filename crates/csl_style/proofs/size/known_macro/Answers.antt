use Rattle.std.proofs.Common.{◌≡◌, slice_index_or, Some, None, refl, arith}
use Rattle.std.proofs.lemmas.Grind.{common_steps}
use Rattle.csl_elements.specs.View.{view_node}
use Rattle.csl_style.specs.AllNodes.{called_name}
use Rattle.csl_style.proofs.AllWithins.{call_all, call_rendered, call_depth}
use Rattle.csl_style.proofs.size.known_macro.Goals as goal

pub returns-then-i-known-clause-all : goal.returns-then-i-known-clause-all
returns-then-i-known-clause-all c =
    let called : called_name (view_node c.args.element.now) ≡ Some c.in_ok-name.name.now = grind (arith, common_steps) in
    call_all c.args.style.now c.args.known.now c.in_ok-i.i (view_node c.args.element.now) c.in_ok-name.name.now c.requires.known called c.in_ok-i.ensures.meaning (slice_index_or c.args.known.now c.in_ok-i.i None) refl

pub returns-then-i-known-clause-rendered : goal.returns-then-i-known-clause-rendered
returns-then-i-known-clause-rendered c =
    let called : called_name (view_node c.args.element.now) ≡ Some c.in_ok-name.name.now = grind (arith, common_steps) in
    call_rendered c.args.style.now c.args.known.now c.in_ok-i.i (view_node c.args.element.now) c.in_ok-name.name.now c.requires.known called c.in_ok-i.ensures.meaning (slice_index_or c.args.known.now c.in_ok-i.i None) refl

pub returns-then-i-known-clause-depth : goal.returns-then-i-known-clause-depth
returns-then-i-known-clause-depth c =
    let called : called_name (view_node c.args.element.now) ≡ Some c.in_ok-name.name.now = grind (arith, common_steps) in
    call_depth c.args.style.now c.args.known.now c.in_ok-i.i (view_node c.args.element.now) c.in_ok-name.name.now c.requires.known called c.in_ok-i.ensures.meaning (slice_index_or c.args.known.now c.in_ok-i.i None) refl
