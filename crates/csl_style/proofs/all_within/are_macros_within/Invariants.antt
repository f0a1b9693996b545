use Rattle.std.proofs.Common.{◌≡◌, ℕ, ◌<◌}
use Rattle.csl_elements.specs.Node.{expand_nodes}
use Rattle.csl_elements.specs.View.{definitions}
use Rattle.csl_style.specs.CallGraph.{children_at}
use Rattle.csl_style.specs.Expanded.{macro_env}
use Rattle.csl_style.specs.AllWithin.{AreNodesWithin}
use Rattle.csl_style.proofs.all_within.are_macros_within.Given as goal

abbrev pub invariant-loop-at : goal.invariant-loop-at
invariant-loop-at l =
    (l.macros ≡ l.style.macros)
    × ((i : ℕ) → i < l.at → AreNodesWithin l.style l.rendered l.size l.depth (expand_nodes (macro_env l.style) (children_at (definitions l.style.macros) i)))
