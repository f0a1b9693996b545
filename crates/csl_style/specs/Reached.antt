-- A walk through all nodes of a layout (`AllNodes`) and of each macro that they reach (CSL 1.0.2,
-- Macro). Where a macro is called for the first time, the walk marks its place and goes through its
-- nodes next. Only private contracts cite these.
use Rattle.std.specs.Prelude.{◌≡◌, ℕ, ◌<◌, List, [], ◌∷◌, ◌++◌, ◌⊎◌, length, set, replicate, Option, Some, None, Bool, true, false, Contains}
use Rattle.csl_elements.specs.declared.element.CslMacro.{CslMacro}
use Rattle.csl_elements.specs.Node.{Node, Nodes, ExpandedNodes, expand_nodes}
use Rattle.csl_elements.specs.View.{Definition, definitions}
use Rattle.csl_style.specs.AllNodes.{all_nodes, called_name, remaining_nodes}
use Rattle.csl_style.specs.CallGraph.{children_at, own_calls}
use Rattle.csl_style.specs.Cycles.{is_marked}
use Rattle.csl_style.specs.Expansion.{macro_expansion}
use Rattle.csl_style.specs.declared.reached.ReachedNodes.{ReachedNodes}

-- the nodes that a name stands for, if there is a name
abbrev pub called_nodes : (List ℕ → Option ExpandedNodes) → Option (List ℕ) → Option ExpandedNodes
called_nodes env None = None
called_nodes env (Some name) = env name

-- each of the places is marked
abbrev pub AreMarked : List Bool → List ℕ → Type 0
AreMarked seen places = (i : ℕ) → Contains places i → is_marked seen i ≡ true

-- a node calls the macro at a place
pub record IsCall (ds : List Definition) (n : Node) (i : ℕ) : Type 0 where
  pub within : i < length ds
  pub place : own_calls ds (called_name n) ≡ i ∷ []
  pub meaning : called_nodes (macro_expansion ds) (called_name n) ≡ Some (expand_nodes (macro_expansion ds) (children_at ds i))

-- a node calls a macro whose place was not marked before, and these are its nodes
abbrev pub IsFirstCall : List Definition → Node → Nodes → List Bool → List Bool → Type 0
IsFirstCall ds n body old new = (i : ℕ) × IsCall ds n i × (children_at ds i ≡ body) × (new ≡ set old i true)

-- the nodes that are left
abbrev pub nodes_left : ReachedNodes → List Node
nodes_left w = remaining_nodes w.left

-- no place is marked, and all nodes of the list are left
abbrev pub IsStart : List CslMacro → Nodes → ReachedNodes → Type 0
IsStart ms ns w = (w.macros.now ≡ ms) × (w.seen.items ≡ replicate (length ms) false) × (nodes_left w ≡ all_nodes ns)

-- A step from these marks and these nodes to others takes a node. It goes on with the rest if the
-- node calls no macro or one that is marked, and else with the nodes of that macro.
abbrev pub IsStep : List Definition → Node → List Bool → List Node → List Bool → List Node → Type 0
IsStep ds n seen left new more =
    (rest : List Node) × (left ≡ n ∷ rest)
    × ((AreMarked seen (own_calls ds (called_name n)) × (new ≡ seen) × (more ≡ rest))
    ⊎ ((i : ℕ) × IsCall ds n i × (new ≡ set seen i true) × (more ≡ all_nodes (children_at ds i) ++ rest)))

-- a walk takes a node
abbrev pub Takes : Node → ReachedNodes → ReachedNodes → Type 0
Takes n old new = (new.macros ≡ old.macros) × IsStep (definitions old.macros.now) n old.seen.items (nodes_left old) new.seen.items (nodes_left new)
