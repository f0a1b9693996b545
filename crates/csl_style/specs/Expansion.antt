-- The nodes that a macro's name stands for (CSL 1.0.2, Macro). Of several macros of one name only
-- the first counts. Macros have *ranks* if each has a number and calls only macros of lower number,
-- or names that the style lacks. An accepted style has ranks. Then a name stands for the nodes of
-- its macro, with each name in them replaced in the same way (`macro_expansion`).
use Rattle.std.specs.Prelude.{◌≡◌, ℕ, zero, suc, nat_lt, Bool, true, ◌&&◌, List, [], ◌∷◌, length, slice_index, Option, Some, None, option_map, if◌then◌else◌}
use Rattle.std.specs.Str.{bytes_eq}
use Rattle.csl_elements.specs.Node.{Node, Nodes, Branches, Substitutes, ExpandedNodes, expand_nodes}
use Rattle.csl_elements.specs.View.{Definition}
use Rattle.csl_style.specs.OverCalls.{over_node, over_nodes, over_branches, over_substitutes}

-- the place of the first macro of the name
abbrev pub macro_index : List ℕ → List Definition → Option ℕ
macro_index name [] = None
macro_index name (d ∷ ds) = if bytes_eq d.0 name then Some 0 else option_map suc (macro_index name ds)

-- the nodes of the first macro of the name
abbrev pub macro_body : List ℕ → List Definition → Option Nodes
macro_body name [] = None
macro_body name (d ∷ ds) = if bytes_eq d.0 name then Some d.1 else macro_body name ds

-- the nodes that a name stands for, with calls followed n deep
unfoldable pub expansion_to_depth : List Definition → ℕ → List ℕ → Option ExpandedNodes
expansion_to_depth ds zero name = None
expansion_to_depth ds (suc n) name = option_map (expand_nodes (expansion_to_depth ds n)) (macro_body name ds)

-- In an acyclic style, no chain of calls goes deeper than the number of macros.
unfoldable pub macro_expansion : List Definition → List ℕ → Option ExpandedNodes
macro_expansion ds = expansion_to_depth ds (length ds)

-- ---- a style is acyclic if its macros have ranks

abbrev pub rank_of : List ℕ → List Definition → List ℕ → Option ℕ
rank_of ranks ds name = option_map (slice_index ranks) (macro_index name ds)

abbrev pub is_below : Option ℕ → ℕ → Bool
is_below None r = true
is_below (Some q) r = nat_lt q r

-- whether a name has a rank below r, or no macro
abbrev pub name_below : (List ℕ → Option ℕ) → ℕ → List ℕ → Bool
name_below rank r name = is_below (rank name) r

-- whether each name that is called has
abbrev pub calls_below : (List ℕ → Option ℕ) → ℕ → Node → Bool
calls_below rank r n = over_node true (name_below rank r) (λ a b. a && b) n

abbrev pub all_below : (List ℕ → Option ℕ) → ℕ → Nodes → Bool
all_below rank r ns = over_nodes true (name_below rank r) (λ a b. a && b) ns

abbrev pub branches_below : (List ℕ → Option ℕ) → ℕ → Branches → Bool
branches_below rank r bs = over_branches true (name_below rank r) (λ a b. a && b) bs

abbrev pub substitutes_below : (List ℕ → Option ℕ) → ℕ → Substitutes → Bool
substitutes_below rank r ss = over_substitutes true (name_below rank r) (λ a b. a && b) ss

abbrev pub body_below : (List ℕ → Option ℕ) → ℕ → Option Nodes → Bool
body_below rank r None = true
body_below rank r (Some ns) = all_below rank r ns

-- Ranks: a number for each place of the list, below the length of the list. The first macro of each
-- name calls only first macros of lower rank, or names that the style lacks.
pub record AreRanks (ds : List Definition) (ranks : List ℕ) : Type 0 where
  pub each : length ranks ≡ length ds
  pub small : (name : List ℕ) → is_below (rank_of ranks ds name) (length ds) ≡ true
  pub fall : (name : List ℕ) (r : ℕ) → rank_of ranks ds name ≡ Some r → body_below (rank_of ranks ds) r (macro_body name ds) ≡ true

abbrev pub IsAcyclic : List Definition → Type 0
IsAcyclic ds = (ranks : List ℕ) × AreRanks ds ranks
