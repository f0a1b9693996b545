use Rattle.std.proofs.Common.{◌≡◌, ℕ, List, [], Option, Some, None, map, Bor, refl, ap, ◌∙◌, rules, w32}
use mir.Val.{SFits, to_z, of_z}
use Rattle.std.proofs.lemmas.Int.{ints, to_z-of_z}
use Rattle.std.specs.Prelude.{option_map, unwrap_or}
use Rattle.csl_elements.specs.Locale.{ordinals_of}
use Rattle.csl_elements.specs.Ordinals.{ordinals}
use Rattle.csl_nodes.proofs.date_text.ordinal_suffix.Goals as goal

unwrap_now : (o : Option (Bor (List ℕ))) (other : Bor (List ℕ)) → (unwrap_or o other).now ≡ unwrap_or (option_map (λ t. t.now) o) other.now
unwrap_now None other = refl
unwrap_now (Some t) other = refl

pub returns : goal.returns
returns g c =
    let gender = c.args.gender in
    let number = to_z w32 (of_z w32 c.from.result) in
    let fits : SFits w32 c.from.result = search (rules, ints) in
    ap (λ t. t.now) c.unwrap_or.ensures
    ∙ unwrap_now c.suffix.result _
    ∙ ap (λ o. unwrap_or o [])
    (c.suffix.ensures
    ∙ ap (λ f. f number gender) c.ordinal_lookup.ensures.suffixes
    ∙ ap (λ n. ordinals (map ordinals_of c.args.ctx.now.style.locales) n gender) (to_z-of_z w32 c.from.result fits ∙ c.from.ensures))
