use Rattle.std.proofs.Common.{◌≡◌, ◌≤◌, ◌++◌, length}
use Rattle.csl_elements.specs.declared.element.Choose.{out-Choose}
use Rattle.csl_style.specs.AllNodes.{remaining_nodes}
use Rattle.csl_style.proofs.AllNodesLaws.{branches_from}
use Rattle.csl_style.proofs.all_nodes.RemainingNodes.push_branches.Given as goal

-- the branches from this place on come first
abbrev pub invariant-loop-i : goal.invariant-loop-i
invariant-loop-i l =
    let choose = out-Choose l.choose in
    record {
      within : l.i ≤ length choose.else_if.items;
      left : remaining_nodes l.self ≡ branches_from choose.else_if.items choose.otherwise l.i ++ remaining_nodes l.fn.self;
    }

abbrev pub decreases-loop-i : goal.decreases-loop-i
decreases-loop-i l = l.i
