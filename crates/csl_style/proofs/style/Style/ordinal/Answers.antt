use Rattle.std.proofs.Common.{map, ap, ◌∙◌, rules}
use Rattle.std.specs.Prelude.{FitsSigned}
use Rattle.std.specs.Int.{w32}
use Rattle.std.proofs.lemmas.Int.{to_z-of_z}
use Rattle.csl_elements.specs.Locale.{ordinals_of}
use Rattle.csl_elements.specs.Ordinals.{ordinals}
use Rattle.csl_style.proofs.style.Style.ordinal.Goals as goal

pub returns : goal.returns
returns c =
    let ls = c.ordinals.result.locales.now in
    let fits : FitsSigned w32 c.args.number = search rules in
    let number = to_z-of_z w32 c.args.number fits in
    c.suffix.ensures ∙ ap (λ n. ordinals (map ordinals_of ls) n c.args.gender) number
    ∙ ap (λ f. f c.args.number c.args.gender) c.ordinals.ensures.suffixes
