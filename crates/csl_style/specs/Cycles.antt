-- Which places of a graph lead to which places, by one edge or more. The places are those of the
-- macros of a style, and the edges are their calls (CSL 1.0.2, Macro).
use Rattle.std.specs.Prelude.{◌≡◌, ℕ, zero, suc, ◌<◌, List, [], ◌∷◌, length, ◌≤◌, slice_index, slice_index_or, Vec, Bool, true, false, All, Contains}
use Rattle.std.specs.declared.alloc.Global.{Global}

-- for each place, the places that its edges lead to
abbrev pub Graph : Type 0
Graph = List (Vec ℕ Global)

-- each edge leads to a place below n
abbrev pub InRange : Graph → ℕ → Type 0
InRange g n = All (λ row. All (λ to. to < n) row.items) g

-- the places that the edges from a place lead to
abbrev pub row_at : Graph → ℕ → List ℕ
row_at [] a = []
row_at (row ∷ rows) zero = row.items
row_at (row ∷ rows) (suc a) = row_at rows a

abbrev pub HasEdge : Graph → ℕ → ℕ → Type 0
HasEdge g a b = Contains (row_at g a) b

-- one place leads to another, by one edge or more
pub data Reaches (g : Graph) : ℕ → ℕ → Type 0 where
  along_edge : {a b : ℕ} → HasEdge g a b → Reaches g a b
  along_edges : {a b c : ℕ} → HasEdge g a b → Reaches g b c → Reaches g a c

abbrev pub is_marked : List Bool → ℕ → Bool
is_marked seen place = slice_index_or seen place false

-- the marked places are those that the place leads to
pub record IsReach (g : Graph) (from : ℕ) (seen : List Bool) : Type 0 where
  pub each : length seen ≡ length g
  pub sound : (to : ℕ) → is_marked seen to ≡ true → Reaches g from to
  pub complete : (to : ℕ) → Reaches g from to → is_marked seen to ≡ true

-- the place leads back to itself, and no earlier one does
pub record IsFirstCyclicPlace (g : Graph) (place : ℕ) : Type 0 where
  pub within : place < length g
  pub returns : Reaches g place place
  pub earlier : (k : ℕ) → k < place → Reaches g k k → ⊥

-- a number for each place, below the number of places, that falls along each edge
pub record ArePlaceRanks (g : Graph) (ranks : List ℕ) : Type 0 where
  pub each : length ranks ≡ length g
  pub small : (a : ℕ) → a < length g → slice_index ranks a < length g
  pub fall : (a b : ℕ) → HasEdge g a b → slice_index ranks b < slice_index ranks a

-- a graph with ranks, in which no place leads back to itself
abbrev pub HasRanks : Graph → Type 0
HasRanks g = (ranks : List ℕ) × ArePlaceRanks g ranks

-- a level for each place, below the number of places, that rises along no edge
pub record ArePlaceLevels (g : Graph) (levels : List ℕ) : Type 0 where
  pub each : length levels ≡ length g
  pub small : (a : ℕ) → a < length g → slice_index levels a < length g
  pub stay : (a b : ℕ) → HasEdge g a b → slice_index levels b ≤ slice_index levels a

-- the number of a place is small, and falls along each of its edges
pub record Falls (g : Graph) (ranks : List ℕ) (a : ℕ) : Type 0 where
  pub small : slice_index ranks a < length g
  pub fall : (b : ℕ) → HasEdge g a b → slice_index ranks b < slice_index ranks a
