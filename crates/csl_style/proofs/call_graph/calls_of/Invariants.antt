use Rattle.std.proofs.Common.{◌≡◌, ◌++◌, length, option_map}
use Rattle.std.specs.Option.{option_or}
use Rattle.csl_elements.specs.View.{definitions, view_nodes}
use Rattle.csl_style.specs.AllNodes.{remaining_nodes}
use Rattle.csl_style.specs.CallGraph.{calls_in_all}
use Rattle.csl_style.specs.Missing.{missing_in_nodes}
use Rattle.csl_style.proofs.AllNodesLaws.{calls_of, first_missing}
use Rattle.csl_style.proofs.call_graph.calls_of.Given as goal

-- what was found so far and what the nodes call that are left is all that is called
abbrev pub invariant-loop-left : goal.invariant-loop-left
invariant-loop-left l =
    let ds = definitions l.macros in
    record {
      places : l.places.items ++ calls_of ds (remaining_nodes l.left) ≡ calls_in_all ds (view_nodes l.elements);
      missing : option_or (option_map (λ name. name.now) l.missing) (first_missing ds (remaining_nodes l.left)) ≡ missing_in_nodes ds (view_nodes l.elements);
    }

abbrev pub decreases-loop-left : goal.decreases-loop-left
decreases-loop-left l = length (remaining_nodes l.left)
