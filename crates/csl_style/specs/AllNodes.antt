-- All nodes of a list, also those inside nodes at any depth (CSL 1.0.2, Rendering Elements): in groups,
-- in each branch of a choice and in its `cs:else`, and in each substitute of names. A node comes before
-- those inside it, else the order is that in which they are written. Only private contracts cite these.
use Rattle.std.specs.Prelude.{ℕ, List, [], ◌∷◌, ◌++◌, Option, Some, None, Bool, false}
use denote.Bor.{Bor}
use Rattle.csl_elements.specs.Node.{Node, text, call, number, label, date, names, choose, group, Nodes, no_nodes, node, Branches, no_branches, otherwise, branch, Substitutes, no_substitutes, substitute}
use Rattle.csl_elements.specs.View.{view_nodes, NamesChildView, a_substitute}
use Rattle.csl_style.specs.YearSuffix.{prints_year_suffix}
use Rattle.csl_elements.specs.declared.element.LayoutRenderingElement.{LayoutRenderingElement}
use Rattle.csl_style.specs.declared.all_nodes.RemainingNodes.{RemainingNodes}

abbrev mutual
  pub all_nodes : Nodes → List Node
  all_nodes no_nodes = []
  all_nodes (node n ns) = n ∷ (nodes_inside n ++ all_nodes ns)

  pub nodes_inside : Node → List Node
  nodes_inside (text t d) = []
  nodes_inside (call name d) = []
  nodes_inside (number n) = []
  nodes_inside (label v l) = []
  nodes_inside (date d) = []
  nodes_inside (names n ss) = nodes_in_substitutes ss
  nodes_inside (choose bs) = nodes_in_branches bs
  nodes_inside (group delimiter d ns) = all_nodes ns

  pub nodes_in_branches : Branches → List Node
  nodes_in_branches no_branches = []
  nodes_in_branches (otherwise ns) = all_nodes ns
  nodes_in_branches (branch ts ns bs) = all_nodes ns ++ nodes_in_branches bs

  pub nodes_in_substitutes : Substitutes → List Node
  nodes_in_substitutes no_substitutes = []
  nodes_in_substitutes (substitute ns ss) = all_nodes ns ++ nodes_in_substitutes ss

-- all nodes of lists of which the last comes first
abbrev pub nodes_of_lists : List (Bor (List LayoutRenderingElement)) → List Node
nodes_of_lists [] = []
nodes_of_lists (l ∷ ls) = nodes_of_lists ls ++ all_nodes (view_nodes l.now)

-- the nodes that a walk has still to go through
abbrev pub remaining_nodes : RemainingNodes → List Node
remaining_nodes w = all_nodes (view_nodes w.first.now) ++ nodes_of_lists w.lists.items

-- the name that a node calls itself, without the nodes inside it
abbrev pub called_name : Node → Option (List ℕ)
called_name (call name d) = Some name
called_name other = None

-- whether a node is a text of the year suffix itself
abbrev pub is_suffix_text : Node → Bool
is_suffix_text (text t d) = prints_year_suffix t
is_suffix_text other = false

-- the nodes inside a child of names
abbrev pub nodes_in_child : NamesChildView → List Node
nodes_in_child (a_substitute ns) = all_nodes ns
nodes_in_child other = []
