use Rattle.std.proofs.Common.{◌∙◌}
use Rattle.csl_elements.specs.Dressing.{dressing_of}
use Rattle.csl_context.specs.Bodies.{inside_body}
use Rattle.csl_context.specs.State.{Inherited}
use Rattle.csl_context.specs.Context.{with_content}
use Rattle.csl_context.specs.Texts.{text_in}
use Rattle.csl_context.proofs.BodyAround.{body_around, body_calls}
use Rattle.csl_nodes.proofs.Dressings.{plain_attributes}
use Rattle.csl_nodes.proofs.date_parts.write_part.Goals as goal

pub returns : goal.returns
returns g c =
    let now = c.args.ctx.now in
    let around = c.args.around in
    let d = plain_attributes (dressing_of around.formatting around.affixes.now around.display) around.strip_periods in
    let l1 = body_calls d c.in_ok-before.before (with_content (λ (inh : Inherited). text_in inh c.args.text.now)) _ _ _ _ c.in_ok-before.ensures.after c.in_ok-before.ensures.before c.in_ok-push_str.ensures c.in_ok-close_body.ensures in
    record {
      was_live = l1.was_live;
      becomes = l1.becomes ∙ body_around d now (text_in (inside_body d now.inherited) c.args.text.now) now.state;
    }
