use Rattle.std.proofs.Common.{◌≡◌, option_map, ap, ◌∙◌, rules}
use Rattle.std.specs.Option.{option_or, unwrap_or}
use Rattle.csl_elements.specs.Names.{NameNode, view_name, view_et_al}
use Rattle.csl_elements.specs.NamesOptions.{inherited_options, apply_options, with_defaults, names_delimiter_of}
use Rattle.csl_elements.specs.NamesParts.{parts_node, default_name, default_et_al}
use Rattle.csl_names.specs.NamesNode.{name_of}
use Rattle.csl_elements.proofs.Options.{map-or, map-unwrap}
use Rattle.csl_names.proofs.names.node.names_style.Goals as goal

pub returns : goal.returns
returns c =
    let node = parts_node c.args.parts.now in
    let inherited = inherited_options c.args.inherited.now in
    let around = apply_options node.options inherited in
    let name : view_name c.unwrap_or-name.result.now ≡ name_of node =
    ap (λ n. view_name n.now) c.unwrap_or-name.ensures ∙ map-unwrap (λ n. view_name n.now) c.name.result c.args.missing_name
    ∙ ap (λ d. unwrap_or (option_map (λ n. view_name n.now) c.name.result) d) c.requires.name ∙ ap (λ o. unwrap_or o default_name) c.name.ensures in
    let own : option_map (λ t. t.now) c.as_deref.result ≡ (view_name c.unwrap_or-name.result.now).options.names_delimiter = search rules in
    let delimiter : option_map (λ t. t.now) c.or-own_delimiter.result ≡ option_or (name_of node).options.names_delimiter node.delimiter =
    ap (option_map (λ t. t.now)) c.or-own_delimiter.ensures ∙ map-or (λ t. t.now) c.as_deref.result c.args.parts.now.delimiter
    ∙ ap (λ o. option_or o node.delimiter) own ∙ ap (λ (v : NameNode). option_or v.options.names_delimiter node.delimiter) name in
    λ i. record {
      name = name i;
      options = (c.merged_options.ensures ∙ ap (λ (v : NameNode). with_defaults (apply_options v.options around)) name) i;
      et_al = (ap (λ e. view_et_al e.now) c.unwrap_or.ensures ∙ map-unwrap (λ e. view_et_al e.now) c.et_al.result c.args.missing_et_al
          ∙ ap (λ d. unwrap_or (option_map (λ e. view_et_al e.now) c.et_al.result) d) c.requires.et_al ∙ ap (λ o. unwrap_or o default_et_al) c.et_al.ensures) i;
      label = c.label.ensures i;
      delimiter = (ap (λ t. t.now) c.unwrap_or-2.ensures ∙ map-unwrap (λ t. t.now) c.or-own_delimiter.result c.merged_delimiter.result
          ∙ ap (λ d. unwrap_or (option_map (λ t. t.now) c.or-own_delimiter.result) d) c.merged_delimiter.ensures
          ∙ ap (λ o. unwrap_or o (names_delimiter_of around)) delimiter) i;
    }
