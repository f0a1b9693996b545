use Rattle.std.proofs.Common.{◌≡◌, [], map, filter, ap, ◌∙◌}
use Rattle.csl_elements.specs.Locale.{ordinal_view, ordinals_of}
use Rattle.csl_elements.specs.Ordinals as spec
use Rattle.csl_elements.specs.OrdinalTable.{is_at, with_ordinals}
use Rattle.csl_elements.proofs.OrdinalRows.{first_in_row}
use Rattle.csl_elements.proofs.locale.ordinals.LocaleOrdinals.first_at.Goals as goal

pub returns : goal.returns
returns c =
    let all = spec.first_ordinals (map ordinals_of c.args.self.locales.now) in
    let group = spec.is_in_group c.args.group in
    let row : map ordinal_view c.row.result.now ≡ with_ordinals [] (filter (is_at c.args.place) all) = c.row.ensures ∙ c.args.self.is.holds c.args.place c.requires.place in
    c.first_of.ensures ∙ ap (λ os. spec.first_of group os c.args.gender) row ∙ first_in_row c.args.group c.args.place c.requires.group all c.args.gender
