use Rattle.std.proofs.Common.{false, ◌∙◌}
use Rattle.csl_elements.specs.Dressing.{affix_texts}
use Rattle.csl_context.specs.Bodies.{BodyAttributes, inside_body}
use Rattle.csl_context.specs.State.{Inherited}
use Rattle.csl_context.specs.Context.{with_content}
use Rattle.csl_context.specs.Texts.{text_in}
use Rattle.csl_context.proofs.BodyAround.{body_around, body_calls}
use Rattle.csl_names.proofs.names.written.push_term.Goals as goal

pub returns : goal.returns
returns g c =
    let now = c.args.ctx.now in
    let label = c.args.label.now in
    let term = c.args.term.now in
    let d : BodyAttributes = record { formatting = label.formatting; affixes = affix_texts label.affixes; quotes = false; strip_periods = label.strip_periods } in
    let l1 = body_calls d c.in_ok-before.before (with_content (λ (inh : Inherited). text_in inh term)) _ _ _ _ c.in_ok-before.ensures.after c.in_ok-before.ensures.before c.in_ok-push_str.ensures c.in_ok-close_body.ensures in
    record {
      was_live = l1.was_live;
      becomes = l1.becomes ∙ body_around d now (text_in (inside_body d now.inherited) term) now.state;
    }
