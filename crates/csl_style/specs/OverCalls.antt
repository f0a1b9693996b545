-- What nodes tell by the macro names that they call (CSL 1.0.2, Macro), in written order: `one` of
-- each call, `none` where nothing is called, and `both` of what is beside one another. A call may be
-- at any depth: in a group, in a branch of a choice or its `cs:else`, and in a substitute of names.
-- The first missing macro (`Missing`), the edges of the graph of calls (`CallGraph`) and the ranks
-- of macros (`Expansion`) are told so.
use Rattle.std.specs.Prelude.{ℕ, List}
use Rattle.csl_elements.specs.Node.{Node, call, names, choose, group, Nodes, no_nodes, node, Branches, no_branches, otherwise, branch, Substitutes, no_substitutes, substitute}

module _ {A : Type 0} (none : A) (one : List ℕ → A) (both : A → A → A) where
  abbrev mutual
    pub over_node : Node → A
    over_node (call name d) = one name
    over_node (names n ss) = over_substitutes ss
    over_node (choose bs) = over_branches bs
    over_node (group delimiter d ns) = over_nodes ns
    over_node other = none

    pub over_nodes : Nodes → A
    over_nodes no_nodes = none
    over_nodes (node n ns) = both (over_node n) (over_nodes ns)

    pub over_branches : Branches → A
    over_branches no_branches = none
    over_branches (otherwise ns) = over_nodes ns
    over_branches (branch ts ns bs) = both (over_nodes ns) (over_branches bs)

    pub over_substitutes : Substitutes → A
    over_substitutes no_substitutes = none
    over_substitutes (substitute ns ss) = both (over_nodes ns) (over_substitutes ss)
