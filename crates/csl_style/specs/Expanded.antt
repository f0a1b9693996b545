-- The nodes that each macro's name stands for in a style (CSL 1.0.2, Macro), nodes with each macro's
-- nodes in the place of its name, and the size of what a child of names holds with all macros
-- expanded.
use Rattle.std.specs.Prelude.{ℕ, suc, List, Option}
use Rattle.csl_elements.specs.Node.{Node, Nodes, ExpandedNode, ExpandedNodes, expand, expand_nodes, sizes}
use Rattle.csl_elements.specs.View.{NamesChildView, a_substitute, definitions}
use Rattle.csl_style.specs.Style.{StyleParts}
use Rattle.csl_style.specs.Expansion.{macro_expansion}

abbrev pub macro_env : StyleParts → List ℕ → Option ExpandedNodes
macro_env s = macro_expansion (definitions s.macros)

abbrev pub expanded : StyleParts → Node → ExpandedNode
expanded style n = expand (macro_env style) n

abbrev pub expanded_nodes : StyleParts → Nodes → ExpandedNodes
expanded_nodes style ns = expand_nodes (macro_env style) ns

-- the `size` of a child of names; only a substitute has one
abbrev pub child_size : (List ℕ → Option ExpandedNodes) → NamesChildView → ℕ
child_size env (a_substitute ns) = suc (sizes (expand_nodes env ns))
child_size env other = 0
