use Rattle.std.proofs.Common.{refl, subst, sym, ap, ◌∙◌}
use Rattle.csl_elements.specs.Names.{view_label}
use Rattle.csl_elements.specs.Node.{label}
use Rattle.csl_elements.specs.Taxonomy.{variable_of}
use Rattle.csl_context.specs.Context.{render_input}
use Rattle.csl_nodes.specs.Label.{label_info}
use Rattle.csl_elements.specs.VariableSet.{Has}
use Rattle.csl_style.specs.Expanded.{expanded}
use Rattle.csl_render.proofs.Plans.{leaf}
use Rattle.csl_render.proofs.Reading.{label_info_same}
use Rattle.csl_render.proofs.VariableSets.{has_more}
use Rattle.csl_render.proofs.leaves.LabelNode.node_info.Goals as goal

pub returns : goal.returns
returns g c =
    let run = c.args.run.now in
    let now = run.now in
    let input = render_input g.T.EntryLike.answers in
    let v = c.args.self.now.variable in
    let l = view_label c.args.self.now.label in
    let read = subst (Has c.with-read.result) c.from.ensures (has_more c.new.result c.with-read.result c.from.result c.with-read.ensures) in
    leaf g.T.EntryLike.answers run (expanded now.style (label v l)) c.new-2.result c.new-2.ensures.author (λ s asks. refl) (λ s alike.
    let same = alike.1 (variable_of v) (subst (λ set. Has set (variable_of v)) (sym c.new-2.ensures.read) read) in
    c.new-2.ensures.answer ∙ c.in_ok-answer.ensures ∙ ap (λ b. label_info (input b) b.state v l) c.context.ensures ∙ label_info_same (input now) now.state s v l same) (λ s. tt)
