use Rattle.std.proofs.Common.{◌≡◌, option_map, string_bytes, ap, ◌∙◌, rules}
use Rattle.std.specs.Option.{option_or}
use Rattle.csl_elements.proofs.Options.{map-or}
use Rattle.csl_names.proofs.names.options.first_text.Goals as goal

pub returns : goal.returns
returns c =
    let own : option_map (λ t. t.now) c.as_deref.result ≡ option_map string_bytes c.args.name.now = search rules in
    ap (option_map (λ t. t.now)) c.or-2.ensures
    ∙ map-or (λ t. t.now) c.as_deref.result c.or.result
    ∙ ap (λ o. option_or o (option_map (λ t. t.now) c.or.result)) own
    ∙ ap (λ o. option_or (option_map string_bytes c.args.name.now) (option_map (λ t. t.now) o)) c.or.ensures
    ∙ ap (option_or (option_map string_bytes c.args.name.now)) (map-or (λ t. t.now) c.args.node c.args.inherited)
