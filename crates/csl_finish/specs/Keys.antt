-- Sort keys (CSL 1.0.2, Sorting). A key is the text of a macro or a variable, folded, and as it is.
-- An empty text has the empty key, which comes last in both directions.
-- The *order* of keys is the list of their places, sorted by the keys, and by the places where keys
-- are equal.
use Rattle.std.specs.Prelude.{◌≡◌, ℕ, ◌+◌, ◌==◌, List, [], ◌∷◌, length, map, string_bytes, String, IsPermutation, slice_index_or, if◌then◌else◌}
use Rattle.std.specs.List.{range_with_len}
use Rattle.std.specs.List.Sorted.{IsSorted}
use Rattle.std.specs.Ordering.{nat_cmp, ordering_then}
use Rattle.std.specs.declared.alloc.Global.{Global}
use Rattle.std.specs.declared.cmp.Ordering.{Ordering}
use Rattle.csl_finish.specs.declared.keys.KeyText.{KeyText}
use Rattle.csl_finish.specs.declared.keys.KeyText.TheVariants.{Up, Down, Empty}
use Rattle.csl_finish.specs.declared.keys.SortDirection.{SortDirection}
use Rattle.csl_finish.specs.declared.keys.SortDirection.TheVariants.{Ascending, Descending}

abbrev pub directed : SortDirection → String Global → String Global → KeyText
directed Ascending folded text = Up folded text
directed Descending folded text = Down (record { 0 = folded }) (record { 0 = text })

-- the key of a text, by its folded text
abbrev pub key_of : SortDirection → String Global → String Global → KeyText
key_of direction folded text = if length (string_bytes text) == 0 then Empty else directed direction folded text

-- keys with their places, the first of which is given
abbrev pub placed_from : {K : Type 0} → ℕ → List K → List (K × ℕ)
placed_from n [] = []
placed_from n (key ∷ keys) = (key, n) ∷ placed_from (n + 1) keys

-- the order of keys with their places: by the keys, and by the places where these are equal
abbrev pub by_key_then_place : {K : Type 0} → (K → K → Ordering) → K × ℕ → K × ℕ → Ordering
by_key_then_place cmp x y = ordering_then (cmp x.0 y.0) (nat_cmp x.1 y.1)

-- all places, each once
abbrev pub ArePlaces : {K : Type 0} → List K → List ℕ → Type 0
ArePlaces keys order = IsPermutation (range_with_len 0 (length keys)) order

abbrev pub AreInOrder : {K : Type 0} → (K → K → Ordering) → List K → List ℕ → Type 0
AreInOrder {K} cmp keys order = (d : K) → IsSorted (by_key_then_place cmp) (map (λ place. (slice_index_or keys place d, place)) order)
