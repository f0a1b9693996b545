use Rattle.std.proofs.Common.{option_map, sym, ap, ◌∙◌}
use Rattle.csl_elements.specs.Node.{expand_nodes}
use Rattle.csl_style.specs.Expanded.{macro_env}
use Rattle.csl_context.specs.Context.{render_input}
use Rattle.csl_render.specs.Tree.{choice_shows}
use Rattle.csl_render.proofs.Chosen.{shows_of_choice}
use Rattle.csl_render.proofs.choose.chosen_children.Goals as goal

pub returns-clause-within : goal.returns-clause-within
returns-clause-within g c = c.children_of_branch.ensures.within (macro_env c.args.ctx.now.style)

pub returns-clause-shown : goal.returns-clause-shown
returns-clause-shown g c v =
    let now = c.args.ctx.now in
    let w = render_input g.T.EntryLike.answers now in
    shows_of_choice w now.state (macro_env now.style) v c.args.choose.now ∙ ap (λ o. choice_shows w now.state v (option_map (expand_nodes (macro_env now.style)) o)) (sym (c.children_of_branch.ensures.value ∙ c.in_ok-branch.ensures))
