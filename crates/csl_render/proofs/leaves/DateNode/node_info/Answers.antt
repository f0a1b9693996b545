use Rattle.std.proofs.Common.{sym, ap, subst, ◌∙◌}
use Rattle.std.specs.Prelude.{not}
use Rattle.csl_elements.specs.Node.{date}
use Rattle.csl_elements.specs.View.{view_date}
use Rattle.csl_style.specs.Expanded.{expanded}
use Rattle.csl_context.specs.Context.{render_input}
use Rattle.csl_nodes.specs.Date.{date_info}
use Rattle.csl_render.specs.DryRun.{dry_of}
use Rattle.csl_render.specs.Plan.{AreAlikeOn}
use Rattle.csl_render.proofs.NoAuthor.{no_date_shows}
use Rattle.csl_render.proofs.Plans.{leaf}
use Rattle.csl_render.proofs.Reading.{date_info_same, date_read}
use Rattle.csl_render.proofs.leaves.DateNode.node_info.Goals as goal

pub returns : goal.returns
returns g c =
    let run = c.args.run.now in
    let now = run.now in
    let input = render_input g.T.EntryLike.answers in
    let n = view_date c.args.self.now in
    let read = c.variable_of_date.result in
    leaf g.T.EntryLike.answers run (expanded now.style (date n)) c.new.result c.new.ensures.author (λ s asks. sym (no_date_shows now.special (not s.first_date_seen) n.variable asks)) (λ s alike.
    let known = subst (λ x. AreAlikeOn (input now) x (dry_of run) s) c.new.ensures.read alike in
    c.new.ensures.answer ∙ c.in_ok-answer.ensures ∙ ap (λ b. date_info (input b) b.state n) c.context.ensures ∙ date_info_same (input now) now.state s known.0 n.variable (date_read now.state s read known.1 n.variable c.variable_of_date.ensures)) (λ s. tt)
