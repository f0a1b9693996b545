use Rattle.std.proofs.Common.{◌<◌, length, sym, ◌∙◌, arith}
use Rattle.csl_style.proofs.PlacesByName.{placed, unplaced, read, found_at, none_named}
use Rattle.csl_style.proofs.style.first_macro.Goals as goal

pub returns-in_err-i-clause-found : goal.returns-in_err-i-clause-found
returns-in_err-i-clause-found c = rw c.from_residual.ensures (sym (none_named c.args.macros.now c.args.name.now (sym (c.requires c.args.name.now) ∙ sym c.in_err-i.ensures)))

pub returns-in_err-i-clause-holds : goal.returns-in_err-i-clause-holds
returns-in_err-i-clause-holds c = rw c.from_residual.ensures (sym (unplaced c.args.macros.now c.args.name.now (sym (c.requires c.args.name.now) ∙ sym c.in_err-i.ensures)))

pub offset_bounds-macros-i : goal.offset_bounds-macros-i
offset_bounds-macros-i c =
    let within : c.in_ok-i.i < length c.args.macros.now = placed c.args.macros.now c.args.name.now c.in_ok-i.i (sym (c.requires c.args.name.now) ∙ sym c.in_ok-i.ensures) in
    omega arith

pub bounds-macros-i : goal.bounds-macros-i
bounds-macros-i c = placed c.args.macros.now c.args.name.now c.in_ok-i.i (sym (c.requires c.args.name.now) ∙ sym c.in_ok-i.ensures)

pub returns-clause-found : goal.returns-clause-found
returns-clause-found c = sym (found_at c.args.macros.now c.args.name.now c.in_ok-i.i c.index-macros-i.result (sym (c.requires c.args.name.now) ∙ sym c.in_ok-i.ensures) c.index-macros-i.is)

pub returns-clause-holds : goal.returns-clause-holds
returns-clause-holds c = sym (read c.args.macros.now c.args.name.now c.in_ok-i.i c.index-macros-i.result (sym (c.requires c.args.name.now) ∙ sym c.in_ok-i.ensures) c.index-macros-i.is)
