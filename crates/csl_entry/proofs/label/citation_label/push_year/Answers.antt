use Rattle.std.proofs.Common.{◌≡◌, ◌++◌, ℕ, ℤ, List, string_bytes, sym, ap, ◌∙◌, rules, w32}
use mir.Val.{SFits}
use Rattle.std.proofs.lemmas.Int.{ints, to_z-of_z}
use Rattle.std.specs.Fmt.{styled_decimal}
use Rattle.std.specs.Prelude.{option_copied, option_map}
use Rattle.lit_model.specs.Date.{date_view}
use Rattle.csl_entry.specs.CitationLabel.{year_part, two_digits, year_number}
use Rattle.csl_entry.proofs.LabelYears.{year_shown}
use Rattle.csl_entry.proofs.label.citation_label.push_year.Goals as goal

pub returns-in_ok-write : goal.returns-in_ok-write
returns-in_ok-write c =
    let before : List ℕ = string_bytes c.args.label.now in
    let wrote = c.in_ok-write.ensures.bytes in
    let fits : SFits w32 c.year.result = search (rules, ints) in
    let number : c.year_number.result ≡ year_number c.year.result = c.year_number.ensures ∙ ap year_number (to_z-of_z w32 c.year.result fits) in
    let year : c.year.result ≡ (date_view c.in-Some.date.now).year = c.year.ensures in
    let text : styled_decimal c.laid_out.result c.year_number.result ≡ two_digits (year_number c.year.result) = ap (λ s. styled_decimal s c.year_number.result) c.laid_out.ensures ∙ year_shown c.year.result c.year_number.result number in
    let part : year_part (option_map date_view (option_copied c.args.date)) ≡ two_digits (year_number c.year.result) = ap (λ o. year_part (option_map date_view (option_copied o))) c.in-Some.is ∙ ap (λ (y : ℤ). two_digits (year_number y)) (sym year) in
    wrote ∙ ap (λ (t : List ℕ). before ++ t) (text ∙ sym part)
