use Rattle.std.proofs.Common.{◌≡◌, false, Result, Ok, Err, ap, sym, subst, ◌∙◌, rules}
use Rattle.csl_elements.specs.Taxonomy.{term_of}
use Rattle.csl_elements.specs.View.{view_number}
use Rattle.csl_entry.specs.NumberResult.{number_or_page_view}
use Rattle.csl_context.specs.Context.{ContextView, Runs, FailsAs, with_content}
use Rattle.csl_context.specs.declared.error.RenderError.{RenderError}
use Rattle.csl_context.specs.RenderInput.{gender_in}
use Rattle.csl_nodes.specs.NumberOrPage.{number_text_view, shown_in, number_node_text}
use Rattle.csl_nodes.specs.Boxes.{in_plain, plain_box}
use Rattle.csl_nodes.specs.Number.{number_meta}
use Rattle.csl_nodes.proofs.number.render_box.Goals as goal

-- a call that changes a context by `f` changes an equal one by `h`, if both agree there
ends_as : {T A : Type 0} (f h : ContextView T → ContextView T) (a old new : ContextView T) (r : Result A RenderError) → old ≡ a → f a ≡ h a → Runs f r old new → Runs h r a new
ends_as f h a old new (Ok x) same e l = record { was_live = ap (λ now. now.failed) (sym same) ∙ l.was_live; becomes = l.becomes ∙ ap f same ∙ e }
ends_as f h a old new (Err x) same e l = subst (λ b. FailsAs x b new) same l

pub returns : goal.returns
returns g c =
    let now = c.args.ctx.now in
    let n = c.args.number.now in
    let d = (view_number n).dressing in
    let found = number_or_page_view c.args.found.now in
    let gender : c.gender-gender.result ≡ gender_in now.style (term_of n.variable) =
    c.gender-gender.ensures ∙ ap (gender_in now.style) c.from.ensures in
    let shown : number_text_view c.in_ok-shown.shown ≡ number_node_text now.style n.form c.gender-gender.result found = search rules in
    ends_as _ _ now _ _ _ c.in_ok-shown.ensures.after.becomes
    (ap (λ m. with_content (λ inh. plain_box d m inh (shown_in (in_plain d false inh) (number_text_view c.in_ok-shown.shown))) now) c.number_meta.ensures
    ∙ ap (λ s. with_content (λ inh. plain_box d (number_meta n.variable) inh (shown_in (in_plain d false inh) s)) now)
    (shown ∙ ap (λ gender. number_node_text now.style n.form gender found) gender))
    c.render_unquoted.ensures
