use Rattle.std.proofs.Common.{◌≡◌, ℕ, Bool, true, false, ◌&&◌, List, refl, sym, ap, subst, ◌∙◌}
use Rattle.std.specs.Cmp.Lexicographic.{slice_cmp}
use Rattle.std.specs.Ordering.{nat_cmp}
use Rattle.std.specs.Prelude.{string_bytes}
use Rattle.csl.specs.Style.declared.style.settings.Scope.TheVariants.{Bibliography}
use Rattle.csl.specs.Style.declared.taxonomy.DateVariable.TheVariants.{Issued}
use Rattle.csl.specs.Entry.Cite.{CiteState, cite_state}
use Rattle.csl.specs.Render.SortedDates.{has_keyed_suffix}
use Rattle.csl_uses.specs.ByDate.{issue}
use Rattle.csl_uses.proofs.by_date.order_by_issue.Goals as goal

no_suffix : (implicit : Bool) → (implicit && false) ≡ false
no_suffix true = refl
no_suffix false = refl

pub returns : goal.returns
returns g c = record {
  in_time = λ one other.
      let style = c.args.style.now in
      let cite = cite_state c.first-first.result in
      let bare : has_keyed_suffix style Bibliography cite ≡ false =
      subst (λ (s : CiteState). has_keyed_suffix style Bibliography s ≡ false) (sym c.first-first.ensures) (no_suffix _) in
      c.cmp.ensures
      ∙ ap (λ (xs : List ℕ). slice_cmp nat_cmp (string_bytes c.in_ok-key.key) xs) c.in_ok-next.ensures.ok
      ∙ c.in_ok-key.ensures.by_date issue Issued cite (g.U.EntryLike.answers c.args.other.now) c.in_ok-layout.ensures (λ part. refl) bare bare one other;
}
