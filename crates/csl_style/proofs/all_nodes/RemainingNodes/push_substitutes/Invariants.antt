use Rattle.std.proofs.Common.{◌≡◌, ◌≤◌, ◌++◌, length}
use Rattle.csl_elements.specs.declared.element.Names.{out-Names}
use Rattle.csl_style.specs.AllNodes.{remaining_nodes}
use Rattle.csl_style.proofs.AllNodesLaws.{children_from}
use Rattle.csl_style.proofs.all_nodes.RemainingNodes.push_substitutes.Given as goal

-- the children from this place on come first
abbrev pub invariant-loop-i : goal.invariant-loop-i
invariant-loop-i l =
    let names = out-Names l.names in
    record {
      within : l.i ≤ length names.children.items;
      left : remaining_nodes l.self ≡ children_from names.children.items l.i ++ remaining_nodes l.fn.self;
    }

abbrev pub decreases-loop-i : goal.decreases-loop-i
decreases-loop-i l = l.i
