use Rattle.std.proofs.Common.{sym, ◌∙◌}
use Rattle.csl_elements.specs.Node.{expand_layout}
use Rattle.csl_elements.specs.View.{view_layout}
use Rattle.csl_style.specs.Expanded.{macro_env}
use Rattle.csl_entry.specs.Cite.{cite_state}
use Rattle.csl_context.specs.Context.{base_inherited}
use Rattle.csl_context.specs.State.{left_state_view}
use Rattle.csl_render.specs.Pair.{cite_input}
use Rattle.csl_render.proofs.Pairs.{printed_same, prints_same}
use Rattle.csl_render.proofs.Theorems.{suppressed_variables_are_silent, one_variable_tells_no_other}
use Rattle.csl_render.proofs.pair.render_pair.Goals as goal

pub returns-clause-same : goal.returns-clause-same
returns-clause-same g c e =
    let a = g.T.EntryLike.answers c.args.left.now in
    let b = g.U.EntryLike.answers c.args.right.now in
    let w = cite_input c.args.style.now c.args.scope (cite_state c.args.cite_props.now) c.args.sorting c.args.kind a in
    printed_same (left_state_view c.args.start.now) w c.args.layout.now a b (c.in_ok-alike.ensures.ok.0 (sym c.in_ok-pair.ensures.alike ∙ e)) _ _ _ _ c.in_ok-pair.ensures.left c.in_ok-pair.ensures.right

pub returns-clause-suppressed : goal.returns-clause-suppressed
returns-clause-suppressed g c agree =
    let style = c.args.style.now in
    let a = g.T.EntryLike.answers c.args.left.now in
    let b = g.U.EntryLike.answers c.args.right.now in
    let w = cite_input style c.args.scope (cite_state c.args.cite_props.now) c.args.sorting c.args.kind a in
    let layout = expand_layout (macro_env style) (view_layout c.args.layout.now) in
    prints_same _ _ (suppressed_variables_are_silent w layout a b (base_inherited style c.args.scope) (left_state_view c.args.start.now) agree) _ _ _ _ c.in_ok-pair.ensures.left c.in_ok-pair.ensures.right

pub returns-clause-one_variable : goal.returns-clause-one_variable
returns-clause-one_variable g c v is agree =
    let style = c.args.style.now in
    let a = g.T.EntryLike.answers c.args.left.now in
    let b = g.U.EntryLike.answers c.args.right.now in
    let w = cite_input style c.args.scope (cite_state c.args.cite_props.now) c.args.sorting c.args.kind a in
    let layout = expand_layout (macro_env style) (view_layout c.args.layout.now) in
    prints_same _ _ (one_variable_tells_no_other w layout v a b is agree (base_inherited style c.args.scope) (left_state_view c.args.start.now)) _ _ _ _ c.in_ok-pair.ensures.left c.in_ok-pair.ensures.right
