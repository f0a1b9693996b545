-- `==` of values that may be texts compares the values, or the texts.
use Rattle.std.proofs.Common.{◌≡◌}
use Rattle.std.specs.Bool.{Decides}
use Rattle.std.specs.declared.cmp.PartialEq.{Ghosts}
use denote.RattleType.{RattleType}
use mir.Syntax.{Dict}
use Rattle.lit_model.specs.MaybeTyped.{maybe_view}
use Rattle.lit_model.specs.declared.maybe_typed.MaybeTyped.{MaybeTyped}
use Rattle.lit_model.specs.declared.maybe_typed.MaybeTyped.TheVariants as of_kind
use Rattle.lit_model.specs.contracts.maybe_typed.MaybeTypedPartialEq.TheImpl.{eq-value as eq_maybe}
use Rattle.lit_model.specs.Page.{part_view, pages_view}
use Rattle.lit_model.specs.declared.page.PageRanges.{PageRanges}
use Rattle.lit_model.specs.contracts.page.PageRangesPartPartialEq.TheImpl.{eq-value as eq_part}
use Rattle.lit_model.specs.contracts.page.PageRangesPartialEq.TheImpl.{eq-value as eq_pages}
use Rattle.lit_model.proofs.PageEqual.{pointwise_view, part_decides}
use Rattle.lit_model.proofs.ByValue.{text_decides}

pub maybe_decides : (T : RattleType) (G : Ghosts T.Denot) (D : Dict) {V : Type 0} (v : T.Denot → V) → ((a b : T.Denot) → Decides (G.eq a b) (v a ≡ v b)) → (x y : MaybeTyped T.Denot) → Decides ((eq_maybe T G D).it x y) (maybe_view v x ≡ maybe_view v y)
maybe_decides T G D v d (of_kind.Typed a) (of_kind.Typed b) = let e = d a b in (λ h. let f = e.0 h in cc, λ h. e.1 cc)
maybe_decides T G D v d (of_kind.Typed a) (of_kind.String t) = ((λ h. cc), λ h. cc)
maybe_decides T G D v d (of_kind.String s) (of_kind.Typed b) = ((λ h. cc), λ h. cc)
maybe_decides T G D v d (of_kind.String s) (of_kind.String t) = let e = text_decides s t in (λ h. let f = e.0 h in cc, λ h. e.1 cc)

pub pages_decide : (a b : PageRanges) → Decides (eq_pages.it a b) (pages_view a ≡ pages_view b)
pages_decide a b = pointwise_view eq_part.it part_view part_decides a.ranges.items b.ranges.items
