use Rattle.std.proofs.Common.{Some, ap, ◌∙◌}
use Rattle.csl_elements.specs.Dressing.{dressing_of}
use Rattle.csl_tree.specs.Content.{elem_content}
use Rattle.csl_tree.specs.Tokens.{meta_of}
use Rattle.csl_context.specs.Bodies.{inside_body}
use Rattle.csl_context.specs.State.{Inherited}
use Rattle.csl_context.specs.Context.{with_content, with_part, close_part_by}
use Rattle.csl_context.proofs.BodyAround.{body_around, body_calls}
use Rattle.csl_context.proofs.Leaving.{and_then}
use Rattle.csl_nodes.specs.Boxes.{body_in}
use Rattle.csl_nodes.proofs.Dressings.{plain_attributes}
use Rattle.csl_nodes.proofs.boxes.render_unquoted.Goals as goal

pub returns : goal.returns
returns g c =
    let now = c.args.ctx.now in
    let around = c.args.around in
    let d = plain_attributes (dressing_of around.formatting around.affixes.now around.display) around.strip_periods in
    let body = λ (inh : Inherited). body_in inh c.args.body in
    let l1 = c.in_ok-element.ensures.after in
    let l2 = body_calls d c.in_ok-before.before (with_content body) _ _ _ _ c.in_ok-before.ensures.after c.in_ok-before.ensures.before c.in_ok-write_body.ensures c.in_ok-close_body.ensures in
    let l3 = and_then _ _ now _ _ l1 l2 in
    let l4 = and_then _ _ now _ _ l3 c.in_ok-commit_elem.ensures.after in
    record {
      was_live = l4.was_live;
      becomes = l4.becomes ∙ ap (close_part_by (λ _ xs. elem_content around.display (Some (meta_of c.args.meta)) xs)) (body_around d (with_part now) (body (inside_body d now.inherited)) now.state);
    }
