use Rattle.std.proofs.Common.{◌≡◌, rules, sym, ap, subst, ◌∙◌}
use Rattle.std.specs.Prelude.{true, not, filter}
use Rattle.std.specs.Str.{all_scalars, chars}
use Rattle.std.proofs.lemmas.Fn.{filter_same}
use Rattle.std.proofs.lemmas.Str.{chars-encodes}
use Rattle.csl_uses.specs.Page.{is_direction_control}
use Rattle.csl_uses.proofs.Directions.{scalars_left}
use Rattle.csl_uses.proofs.page.drop_direction_controls.Goals as goal

pub returns : goal.returns
returns c =
    let r = c.retain.ensures.filtered in
    let kept : r.kept ≡ filter (λ c. not (is_direction_control c)) r.all = filter_same _ _ _ (λ x b f k. search rules) r.all r.kept r.chosen in
    let scalars : all_scalars r.kept ≡ true = subst (λ cs. all_scalars cs ≡ true) (sym kept) (scalars_left is_direction_control r.all r.are) in
    let before = ap chars (sym r.spell) ∙ chars-encodes r.all r.are in
    ap chars r.stay ∙ chars-encodes r.kept scalars ∙ kept ∙ ap (filter (λ c. not (is_direction_control c))) (sym before)
