use Rattle.std.proofs.Common.{ap, ◌∙◌, w32}
use Rattle.std.proofs.lemmas.Int.{to_z-of_z}
use Rattle.std.specs.Fmt.{styled_signed_decimal}
use Rattle.csl_nodes.proofs.PaddedNumbers.{nine_places_shown}
use Rattle.csl_nodes.proofs.date_key.nine_places.Goals as goal

pub returns : goal.returns
returns c =
    let n = c.args.number in
    c.in_ok-text.ensures.ok
    ∙ ap (styled_signed_decimal c.laid_out.result) (to_z-of_z w32 n c.ranges.number)
    ∙ ap (λ s. styled_signed_decimal s n) c.laid_out.ensures
    ∙ nine_places_shown n
