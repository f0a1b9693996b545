-- The calls between the macros of a style, as a graph (CSL 1.0.2, Macro). Its vertices are the
-- places of the macros in the list. Each call of a macro that the style has is one edge. The code
-- searches this graph for cycles. Only private contracts cite `calls_in`, `calls_in_all`,
-- `calls_in_branches`, `calls_in_substitutes`, `name_at`, `children_at` and `IsCallGraph`.
use Rattle.std.specs.Prelude.{◌≡◌, ℕ, zero, suc, ◌<◌, List, [], ◌∷◌, ◌++◌, length, Option, Some, None}
use Rattle.std.specs.Option.{option_to_list}
use Rattle.std.specs.HashMap as hash
use Rattle.std.specs.BTreeMap as tree
use Rattle.csl_style.specs.declared.places.Places.{Places}
use Rattle.csl_style.specs.declared.places.Places.TheVariants.{Few, Many}
use Rattle.csl_style.specs.Cycles.{Graph, row_at}
use Rattle.csl_elements.specs.Node.{Node, Nodes, no_nodes, Branches, Substitutes}
use Rattle.csl_elements.specs.View.{Definition}
use Rattle.csl_style.specs.Expansion.{macro_index}
use Rattle.csl_style.specs.OverCalls.{over_node, over_nodes, over_branches, over_substitutes}

-- the place of the first macro of a name, if there is one
abbrev pub call_of : List Definition → List ℕ → List ℕ
call_of ds name = option_to_list (macro_index name ds)

abbrev pub calls_in : List Definition → Node → List ℕ
calls_in ds n = over_node [] (call_of ds) (λ a b. a ++ b) n

abbrev pub calls_in_all : List Definition → Nodes → List ℕ
calls_in_all ds ns = over_nodes [] (call_of ds) (λ a b. a ++ b) ns

abbrev pub calls_in_branches : List Definition → Branches → List ℕ
calls_in_branches ds bs = over_branches [] (call_of ds) (λ a b. a ++ b) bs

abbrev pub calls_in_substitutes : List Definition → Substitutes → List ℕ
calls_in_substitutes ds ss = over_substitutes [] (call_of ds) (λ a b. a ++ b) ss

-- the place that a node calls itself, without the nodes inside it
abbrev pub own_calls : List Definition → Option (List ℕ) → List ℕ
own_calls ds None = []
own_calls ds (Some name) = call_of ds name

abbrev pub name_at : List Definition → ℕ → List ℕ
name_at [] i = []
name_at (d ∷ ds) zero = d.0
name_at (d ∷ ds) (suc i) = name_at ds i

abbrev pub children_at : List Definition → ℕ → Nodes
children_at [] i = no_nodes
children_at (d ∷ ds) zero = d.1
children_at (d ∷ ds) (suc i) = children_at ds i

-- the graph has a row for each macro, with an edge for each of its calls
pub record IsCallGraph (ds : List Definition) (g : Graph) : Type 0 where
  pub each : length g ≡ length ds
  pub rows : (i : ℕ) → i < length ds → row_at g i ≡ calls_in_all ds (children_at ds i)

-- the place that is kept for a name; only private contracts cite it
abbrev pub place_in : Places → List ℕ → Option ℕ
place_in (Few places) name = hash.get_by_text places name
place_in (Many places) name = tree.get_by_text places name

-- At each name there is the place of its first macro, and nothing at a name without a macro.
abbrev pub ArePlacesByName : Places → List Definition → Type 0
ArePlacesByName places ds = (name : List ℕ) → place_in places name ≡ macro_index name ds
