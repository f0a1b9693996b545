use Rattle.std.proofs.Common.{◌≡◌, ◌++◌, List, [], ◌∷◌, length, drop, option_map, sym, ap, ◌∙◌, arith, rules, length-append, string_bytes, ◌+◌, None, if◌then◌else◌}
use Rattle.std.specs.Option.{option_or}
use Rattle.std.proofs.lemmas.Grind.{common_steps}
use Rattle.csl_elements.specs.declared.element.CslMacro.{CslMacro}
use Rattle.csl_elements.specs.View.{definitions, view_nodes}
use Rattle.csl_style.specs.CallGraph.{calls_in_all, children_at}
use Rattle.csl_style.specs.Missing.{is_first_at, missing_in_nodes, missing_in_macros}
use Rattle.csl_style.proofs.AllNodesLaws.{or-assoc, or_names}
use Rattle.csl_style.proofs.Called.{rows-more, in-range, children-read, length-definitions, missing-next}
use Rattle.csl_style.proofs.call_graph.call_graph.Goals as goal

pub loop-i-preserved : goal.loop-i-preserved
loop-i-preserved c =
    let ms = c.args.macros.now in
    let ds = definitions ms in
    let g = c.loop-i.rows.items in
    let i = c.loop-i.i in
    let row = c.in_ok-calls.calls.places in
    let m = c.m-item.result in
    let same = c.items-m-items.ensures in
    let e : c.push.new.self.items ≡ g ++ row ∷ [] = search rules in
    let made : row.items ≡ calls_in_all ds (view_nodes m.children.items) = grind (arith, common_steps) in
    let here : row.items ≡ calls_in_all ds (children_at ds i) = made ∙ ap (calls_in_all ds) (sym (children-read c.items-m-items.result.now i m (omega arith) c.m-item.is) ∙ ap (λ (xs : List CslMacro). children_at (definitions xs) i) same) in
    let before = option_map (λ name. name.now) c.loop-i.missing in
    let here_missing = if is_first_at ds i (string_bytes m.name) then missing_in_nodes ds (view_nodes m.children.items) else None in
    let rest = missing_in_macros ds (i + 1) (definitions (drop (i + 1) ms)) in
    let first : c.or-missing.result ≡ option_or c.loop-i.missing c.unless_hidden.result = search rules in
    let hidden : option_map (λ name. name.now) c.unless_hidden.result ≡ here_missing = search rules in
    rw e record {
      each = length-append g (row ∷ []) ∙ omega (arith, c.loop-i.invariant.each);
      rows = rows-more ds g row i c.loop-i.invariant.each c.loop-i.invariant.rows here;
      missing =
          ap (λ a. option_or a rest) (ap (option_map (λ name. name.now)) first ∙ or_names c.loop-i.missing c.unless_hidden.result ∙ ap (option_or before) hidden)
          ∙ or-assoc before here_missing rest ∙ ap (option_or before) (sym (missing-next ds c.items-m-items.result.now ms i m same (omega arith) c.m-item.is)) ∙ c.loop-i.invariant.missing;
    }

pub returns-clause-range : goal.returns-clause-range
returns-clause-range c =
    let ms = c.args.macros.now in
    let len = length-definitions ms in
    let same = ap (λ (xs : List CslMacro). length xs) c.items-m-items.ensures in
    in-range (definitions ms) c.loop-i.rows.items (record { each = omega (arith, c.loop-i.invariant.each); rows = λ k less. c.loop-i.invariant.rows k (omega arith) })
