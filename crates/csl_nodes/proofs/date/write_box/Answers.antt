use Rattle.std.proofs.Common.{Some, false, ap, ◌∙◌}
use Rattle.lit_model.specs.Date.{date_view}
use Rattle.csl_elements.specs.declared.formatting.Formatting as partial
use Rattle.csl_tree.specs.Content.{elem_content}
use Rattle.csl_tree.specs.Tokens.{of_date}
use Rattle.csl_entry.specs.Answers.{Answers}
use Rattle.csl_context.specs.Bodies.{BodyAttributes, inside_body, values_before, with_open_body, with_closed_body}
use Rattle.csl_context.specs.Context.{ContextView, render_input, with_content, with_part, close_part_by}
use Rattle.csl_context.proofs.BodyAround.{body_around, body_calls}
use Rattle.csl_context.proofs.Leaving.{and_then}
use Rattle.csl_nodes.proofs.Dressings.{plain_attributes}
use Rattle.csl_nodes.specs.Date.{date_body, localized_node}
use Rattle.csl_nodes.specs.declared.date_parts.DateValue.{DateValue}
use Rattle.csl_nodes.specs.declared.date_parts.LocalizedDate.{LocalizedDate}
use Rattle.csl_nodes.proofs.date.write_box.Goals as goal

module _ {T : Type 0} (answers : T → Answers) (written : LocalizedDate) (found : DateValue) where
  -- the context after the parts of the date
  abbrev with_parts : ContextView T → ContextView T
  with_parts now = with_content (date_body (render_input answers now) (localized_node written) found.suffix.now (date_view found.date.now)) now

  abbrev attributes : partial.Formatting → BodyAttributes
  attributes f = record (plain_attributes (localized_node written).dressing false) { formatting = f }

  abbrev boxed : ContextView T → ContextView T
  boxed now = close_part_by (λ _ c. elem_content (localized_node written).dressing.display (Some of_date) c) now

  abbrev boxed_in : partial.Formatting → ContextView T → ContextView T
  boxed_in f now = boxed (with_closed_body (attributes f) (values_before now.inherited) (with_parts (with_open_body (attributes f) (with_part now))))

pub returns : goal.returns
returns g c =
    let now = c.args.ctx.now in
    let answers = g.T.EntryLike.answers in
    let written = c.args.date in
    let found = c.args.found in
    let own = plain_attributes (localized_node written).dressing false in
    let l1 = c.in_ok-element.ensures.after in
    let l2 = body_calls (attributes answers written found c.formatting.result) c.in_ok-before.before (with_parts answers written found) _ _ _ _ c.in_ok-before.ensures.after c.in_ok-before.ensures.before c.in_ok-render_parts.ensures c.in_ok-close_body.ensures in
    let l3 = and_then _ _ now _ _ l1 l2 in
    let l4 = and_then _ _ now _ _ l3 c.in_ok-commit_elem.ensures.after in
    record {
      was_live = l4.was_live;
      becomes = l4.becomes
          ∙ ap (λ f. boxed_in answers written found f now) c.formatting.ensures
          ∙ ap (boxed answers written found) (body_around own (with_part now) (date_body (render_input answers now) (localized_node written) found.suffix.now (date_view found.date.now) (inside_body own now.inherited)) now.state);
    }
