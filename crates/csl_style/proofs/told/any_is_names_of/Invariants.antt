use Rattle.std.proofs.Common.{◌≡◌, drop}
use Rattle.csl_elements.specs.View.{view_nodes}
use Rattle.csl_style.specs.NamesOf.{any_is_written_names_of}
use Rattle.csl_style.proofs.told.any_is_names_of.Given as goal

-- the result for the remaining nodes is that for all
abbrev pub invariant-loop-node : goal.invariant-loop-node
invariant-loop-node l = any_is_written_names_of l.variable (view_nodes (drop l.node-index l.nodes)) ≡ any_is_written_names_of l.variable (view_nodes l.nodes)
