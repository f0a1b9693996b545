use Rattle.std.proofs.Common.{◌≡◌, ◌∷◌, ◌++◌, [], List, Some, None, option_map, sym, ap, ◌∙◌, rules}
use Rattle.std.specs.Option.{option_or}
use Rattle.csl_elements.specs.Node.{Node}
use Rattle.csl_elements.specs.View.{definitions, view_node, view_nodes}
use Rattle.csl_style.specs.AllNodes.{remaining_nodes, called_name}
use Rattle.csl_style.specs.Expansion.{macro_index}
use Rattle.csl_style.proofs.AllNodesLaws.{calls_of, all_calls, call_taken, missing_passed, first_missing, all_missing, defined_passed, missing_taken, or_names}
use Rattle.csl_style.proofs.call_graph.calls_of.Goals as goal

pub loop-left-init : goal.loop-left-init
loop-left-init c =
    let ds = definitions c.args.macros.now in
    let ns = view_nodes c.args.elements.now in
    record {
      places = ap (λ ps. ps ++ calls_of ds (remaining_nodes c.new-left.result)) c.new-places.ensures.items ∙ ap (calls_of ds) c.new-left.ensures ∙ all_calls ds ns;
      missing = ap (first_missing ds) c.new-left.ensures ∙ all_missing ds ns;
    }

pub loop-left-preserved-in-Continue-branch-3 : goal.loop-left-preserved-in-Continue-branch-3
loop-left-preserved-in-Continue-branch-3 c =
    let ds = definitions c.args.macros.now in
    let ps = c.loop-left.places.items in
    let missing = option_map (λ name. name.now) c.loop-left.missing in
    let v = view_node c.in-Some.node.now in
    let name = c.in-Some-called_name.name.now in
    let rest = remaining_nodes c.next.new.self in
    let taken : remaining_nodes c.loop-left.left ≡ v ∷ rest = search rules in
    let named : called_name v ≡ Some name = search rules in
    let is : macro_index name ds ≡ Some c.in-Some-place.i = search rules in
    let pushed : c.push.new.self.items ≡ ps ++ c.in-Some-place.i ∷ [] = search rules in
    record {
      places = ap (λ xs. xs ++ calls_of ds rest) pushed ∙ call_taken ds ps v name c.in-Some-place.i rest named is ∙ ap (λ (xs : List Node). ps ++ calls_of ds xs) (sym taken) ∙ c.loop-left.invariant.places;
      missing = ap (option_or missing) (sym (ap (first_missing ds) taken ∙ defined_passed ds v name c.in-Some-place.i rest named is)) ∙ c.loop-left.invariant.missing;
    }

pub loop-left-preserved-in-None : goal.loop-left-preserved-in-None
loop-left-preserved-in-None c =
    let ds = definitions c.args.macros.now in
    let ps = c.loop-left.places.items in
    let missing = option_map (λ name. name.now) c.loop-left.missing in
    let v = view_node c.in-Some.node.now in
    let name = c.in-Some-called_name.name.now in
    let rest = remaining_nodes c.next.new.self in
    let taken : remaining_nodes c.loop-left.left ≡ v ∷ rest = search rules in
    let named : called_name v ≡ Some name = search rules in
    let is : macro_index name ds ≡ None = search rules in
    let first : c.or-missing.result ≡ option_or c.loop-left.missing (Some c.in-Some-called_name.name) = search rules in
    record {
      places = ap (λ (xs : List _). ps ++ xs) (sym (ap (calls_of ds) taken ∙ missing_passed ds v name rest named is)) ∙ c.loop-left.invariant.places;
      missing =
          ap (λ m. option_or m (first_missing ds rest)) (ap (option_map (λ name. name.now)) first ∙ or_names c.loop-left.missing (Some c.in-Some-called_name.name))
          ∙ missing_taken ds missing v name rest named is ∙ ap (λ (xs : List Node). option_or missing (first_missing ds xs)) (sym taken) ∙ c.loop-left.invariant.missing;
    }
