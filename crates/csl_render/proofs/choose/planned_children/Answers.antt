use Rattle.std.proofs.Common.{option_map, sym, ap, ◌∙◌}
use Rattle.csl_elements.specs.Node.{expand_nodes}
use Rattle.csl_elements.specs.View.{view_nodes}
use Rattle.csl_style.specs.Expanded.{macro_env}
use Rattle.csl_context.specs.Context.{render_input}
use Rattle.csl_render.specs.Tree.{choice_output}
use Rattle.csl_render.proofs.ByPlan.{taken_planned}
use Rattle.csl_render.proofs.Chosen.{tree_of_choice, taken_by}
use Rattle.csl_render.proofs.choose.planned_children.Goals as goal

pub returns-clause-within : goal.returns-clause-within
returns-clause-within g c = c.children_of_branch.ensures.within (macro_env c.args.ctx.now.style)

pub returns-clause-output : goal.returns-clause-output
returns-clause-output g c =
    let now = c.args.ctx.now in
    let w = render_input g.T.EntryLike.answers now in
    let e = macro_env now.style in
    let same = ap (option_map (expand_nodes e)) c.children_of_branch.ensures.value ∙ taken_by w now.state e c.args.choose.now c.in_ok-branch.branch c.in_ok-branch.ensures in
    tree_of_choice w now.state e now.inherited c.args.choose.now ∙ ap (λ o. choice_output w o now.inherited now.state) (sym same)

pub returns-clause-plan : goal.returns-clause-plan
returns-clause-plan g c =
    let now = c.args.ctx.now in
    let w = render_input g.T.EntryLike.answers now in
    let e = macro_env now.style in
    let same = ap (option_map (expand_nodes e)) c.children_of_branch.ensures.value ∙ taken_by w now.state e c.args.choose.now c.in_ok-branch.branch c.in_ok-branch.ensures in
    taken_planned w now.state e c.args.choose.now (λ ns. view_nodes ns.now) c.children_of_branch.result same c.args.plan c.requires
