use Rattle.std.proofs.Common.{◌≡◌, None, Some, List, ℕ, string_bytes, subst, sym, ap, ◌∙◌}
use Rattle.csl_tree.specs.Write.{plain_text}
use Rattle.csl_entry.specs.Cite.{cite_state}
use Rattle.csl_nodes.specs.Text.{RenderOutput}
use Rattle.csl_render.specs.Cites.{sort_key_text}
use Rattle.csl_render.specs.SortedDates.{SortsByDate}
use Rattle.csl_render.proofs.Theorems.{sort_keys_order_as_dates, answers_decide}
use Rattle.csl.proofs.renderer.Renderer.sort_key.Goals as goal

pub returns-clause-by_date : goal.returns-clause-by_date
returns-clause-by_date g c =
    let style = c.args.self.now.style in
    let scope = c.args.scope in
    let cite = cite_state c.args.cite_props.now in
    let a = g.T.EntryLike.answers c.args.entry.now in
    let layout = c.args.layout.now in
    let bytes : string_bytes c.in-Ok.key ≡ sort_key_text style scope cite c.args.sorting a layout =
    c.in-Ok.ensures ∙ ap (λ (m : RenderOutput). plain_text m.content) c.in_ok-rendered.ensures.ok in
    subst (λ (key : List ℕ). SortsByDate key style scope cite c.args.sorting a layout) (sym bytes) (sort_keys_order_as_dates style scope cite c.args.sorting a layout)

pub returns-clause-decided : goal.returns-clause-decided
returns-clause-decided g c others alike =
    let cite = cite_state c.args.cite_props.now in
    let a = g.T.EntryLike.answers c.args.entry.now in
    c.in-Ok.ensures ∙ ap (λ (m : RenderOutput). plain_text m.content) (c.in_ok-rendered.ensures.ok ∙ answers_decide c.args.self.now.style c.args.scope cite (Some c.args.sorting) None c.args.layout.now a others alike)
