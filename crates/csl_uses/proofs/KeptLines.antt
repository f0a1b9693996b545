-- A kept line is that of each work whose snapshot is equal to its own, also after one more is kept.
use Rattle.std.proofs.Common.{◌≡◌, ℕ, Bool, true, false, cond, List, Option, Some, None, refl, sym, ap, subst, ◌∙◌}
use Rattle.std.specs.Prelude.{[], IfSome, String, string_bytes, option_map, unwrap_or}
use Rattle.std.specs.Map.{lookup}
use Rattle.std.specs.HashMap.{HashMap, get, Updates, IsUnchanged}
use Rattle.std.specs.declared.alloc.Global.{Global}
use Rattle.csl.specs.Style.Expanded.{macro_env}
use Rattle.csl.specs.Style.Named.{named_in_nodes}
use Rattle.csl.specs.Style.NamedSet.{named_set}
use Rattle.csl.specs.Style.Node.{expand_layout}
use Rattle.csl.specs.Style.Style.{StyleParts}
use Rattle.csl.specs.Style.View.{view_layout}
use Rattle.csl.specs.Style.declared.element.Layout.{Layout}
use Rattle.csl.specs.Style.declared.named.Named.{Named}
use Rattle.csl.specs.Style.declared.style.settings.Scope.TheVariants.{Bibliography}
use Rattle.csl.specs.Tree.Write.{text_in_format}
use Rattle.csl.specs.Tree.declared.elem.BufWriteFormat.TheVariants.{Html}
use Rattle.csl.specs.Entry.Alike.{SameNamedAnswers}
use Rattle.csl.specs.Entry.Answers.{Answers}
use Rattle.csl.specs.Entry.Cite.{first_cite, no_disambiguation}
use Rattle.csl.specs.Entry.Snapshot.{kept_in, snapshot_answers}
use Rattle.csl.specs.Entry.contracts.snapshot.SnapshotPartialEq.TheImpl.{eq-value}
use Rattle.csl.specs.Entry.declared.snapshot.Snapshot.{Snapshot}
use Rattle.csl.specs.Render.Cites.{whole_cite}
use Rattle.csl.proofs.Snapshots.{answers_decide, snapshots_decide}
use Rattle.csl_uses.specs.List.{line_html, NamedByBibliography, AreLines}

-- the line by this layout, if there is one
abbrev html_by : StyleParts → Answers → Layout → List ℕ
html_by style a layout = text_in_format Html (whole_cite style Bibliography (first_cite no_disambiguation) a layout).content

module _ (style : StyleParts) (named : Named) (a b : Answers) (alike : SameNamedAnswers (named_set named) a b) (names : NamedByBibliography style named) where
  alike_by : (layout : Option Layout) → style.bibliography ≡ layout → unwrap_or (option_map (html_by style a) layout) [] ≡ unwrap_or (option_map (html_by style b) layout) []
  alike_by None is = refl
  alike_by (Some layout) is = ap (λ m. text_in_format Html m.content) (answers_decide style Bibliography (first_cite no_disambiguation) None None layout a b (subst (λ ns. SameNamedAnswers ns a b) (names layout is) alike))

  pub alike_lines : line_html style a ≡ line_html style b
  alike_lines = alike_by style.bibliography refl

-- the variables and kinds that the layout of the bibliography names are those of any such layout
pub named_by_layout : (style : StyleParts) (named : Named) (layout : Layout) → style.bibliography ≡ Some layout
    → named_set named ≡ named_in_nodes (expand_layout (macro_env style) (view_layout layout)).elements → NamedByBibliography style named
named_by_layout style named layout is all other found =
    subst (λ o. IfSome o (λ l. named_set named ≡ named_in_nodes (expand_layout (macro_env style) (view_layout l)).elements)) (sym is ∙ found) all

module _ {S : Type 0} (style : StyleParts) (m n : HashMap Snapshot (String Global) S) (kept : AreLines style m) where
  pub unchanged_lines : IsUnchanged m n → AreLines style n
  unchanged_lines same s = subst (λ es. IfSome (lookup (eq-value.it s) es) (λ html. string_bytes html ≡ line_html style (snapshot_answers s))) (sym same) (kept s)

  module _ (s : Snapshot) (html : String Global) (is : string_bytes html ≡ line_html style (snapshot_answers s)) where
    kept_at : (q : Snapshot) (same : Bool) → eq-value.it s q ≡ same → IfSome (cond same (Some html) (get eq-value.it m q)) (λ h. string_bytes h ≡ line_html style (snapshot_answers q))
    kept_at q true e = is ∙ ap (λ k. line_html style (kept_in k)) ((snapshots_decide s q).0 e)
    kept_at q false e = kept q

    pub lines_with : Updates eq-value.it m n s (Some html) → AreLines style n
    lines_with updates q = subst (λ o. IfSome o (λ h. string_bytes h ≡ line_html style (snapshot_answers q))) (sym (updates.0 q)) (kept_at q (eq-value.it s q) refl)
