use Rattle.std.proofs.Common.{◌≡◌, ◌<◌, Some, option_map, sym, ap, ◌∙◌, rules}
use Rattle.csl_elements.specs.NamesParts.{names_substitutes, first_substitute}
use Rattle.csl_elements.specs.Node.{expand_nodes, sizes, expanded_substitutes_size}
use Rattle.csl_elements.specs.View.{view_nodes}
use Rattle.csl_style.specs.Expanded.{macro_env}
use Rattle.csl_render.specs.Names.{expanded_substitutes_of}
use Rattle.csl_render.proofs.Within.{first_is_smaller}
use Rattle.csl_render.proofs.+shows.Goals as goal

pub names::names_or_substitute_show-any_shows-requires : goal.names::names_or_substitute_show-any_shows-requires
names::names_or_substitute_show-any_shows-requires g t c =
    let e = macro_env c.args.query.now.now.style in
    let x = c.args.names.now in
    let ns = view_nodes c.in-Some.nodes.now in
    let here : Some ns ≡ first_substitute (names_substitutes x) = ap (option_map (λ l. view_nodes l.now)) (sym c.in-Some.is) ∙ c.substitute_children.ensures in
    let smaller : sizes (expand_nodes e ns) < expanded_substitutes_size (expanded_substitutes_of e x) = first_is_smaller e x ns here in
    search (rules, smaller)
