use Rattle.std.proofs.Common.{[], option_map, ap, ◌∙◌}
use Rattle.std.specs.Option.{unwrap_or}
use Rattle.csl_elements.proofs.Options.{map-or, map-unwrap}
use Rattle.csl_names.proofs.names.options.merged_delimiter.Goals as goal

pub returns : goal.returns
returns c =
    ap (λ t. t.now) c.unwrap_or.ensures
    ∙ map-unwrap (λ t. t.now) c.or.result _
    ∙ ap (λ o. unwrap_or (option_map (λ t. t.now) o) []) c.or.ensures
    ∙ ap (λ o. unwrap_or o []) (map-or (λ t. t.now) c.args.node.now.names_delimiter c.args.base.now.names_delimiter)
