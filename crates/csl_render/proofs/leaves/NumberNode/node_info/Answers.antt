use Rattle.std.proofs.Common.{subst, sym, ap, ◌∙◌}
use Rattle.csl_elements.specs.Node.{number}
use Rattle.csl_elements.specs.View.{view_number}
use Rattle.csl_elements.specs.Taxonomy.{variable_of}
use Rattle.csl_context.specs.Context.{render_input}
use Rattle.csl_nodes.specs.Number.{number_info}
use Rattle.csl_elements.specs.VariableSet.{Has}
use Rattle.csl_style.specs.Expanded.{expanded}
use Rattle.csl_render.proofs.NoAuthor.{no_number_shows}
use Rattle.csl_render.proofs.Plans.{leaf}
use Rattle.csl_render.proofs.Reading.{number_info_same}
use Rattle.csl_render.proofs.VariableSets.{has_more}
use Rattle.csl_render.proofs.leaves.NumberNode.node_info.Goals as goal

pub returns : goal.returns
returns g c =
    let run = c.args.run.now in
    let now = run.now in
    let input = render_input g.T.EntryLike.answers in
    let n = view_number c.args.self.now in
    let read = subst (Has c.with-read.result) c.from.ensures (has_more c.new.result c.with-read.result c.from.result c.with-read.ensures) in
    leaf g.T.EntryLike.answers run (expanded now.style (number n)) c.new-2.result c.new-2.ensures.author (λ s asks. sym (no_number_shows now.special n.variable asks)) (λ s alike.
    let same = alike.1 (variable_of n.variable) (subst (λ set. Has set (variable_of n.variable)) (sym c.new-2.ensures.read) read) in
    c.new-2.ensures.answer ∙ c.in_ok-answer.ensures ∙ ap (λ b. number_info (input b) b.state n) c.context.ensures ∙ number_info_same (input now) now.state s n same) (λ s. tt)
