use Rattle.std.proofs.Common.{◌≡◌, drop}
use Rattle.csl_elements.specs.Node.{expand_nodes}
use Rattle.csl_elements.specs.View.{view_nodes}
use Rattle.csl_render.specs.Names.{Macros, any_is_names_of}
use Rattle.csl_render.proofs.names.refused.any_is_names_of.Given as goal

-- the result for the remaining nodes is that for all
abbrev pub invariant-loop-node : goal.invariant-loop-node
invariant-loop-node l = (env : Macros) →
    any_is_names_of l.variable (expand_nodes env (view_nodes (drop l.node-index l.nodes))) ≡ any_is_names_of l.variable (expand_nodes env (view_nodes l.nodes))
