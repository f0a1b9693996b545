-- Items at the places of an order.
use Rattle.std.proofs.Common.{◌≡◌, ◌<◌, ℕ, List, get_or, map, length, refl, sym, subst, arith}
use Rattle.std.specs.List.{All, range_with_len}
use Rattle.std.specs.List.Sorted.{IsPermutation}
use Rattle.std.proofs.lemmas.List.FromFn.{fill_by_all, get_or-range_with_len, length-range_with_len}
use Rattle.std.proofs.lemmas.List.Sorted.{All-permutation, IsPermutation-map, IsPermutation-trans}
use Rattle.csl_finish.specs.Keys.{ArePlaces}

pub range_below : (n : ℕ) → All (λ place. place < n) (range_with_len 0 n)
range_below n k d h =
    let within : k < n = omega (arith, h, length-range_with_len 0 n) in
    omega (arith, within, get_or-range_with_len 0 n k d within)

pub places_within : {K : Type 0} (items : List K) (places : List ℕ) → ArePlaces items places → All (λ place. place < length items) places
places_within items places h = All-permutation (λ place. place < length items) (range_with_len 0 (length items)) places h (range_below (length items))

pub same_places : {K L : Type 0} (keys : List K) (items : List L) (order : List ℕ) → length keys ≡ length items → ArePlaces keys order → ArePlaces items order
same_places keys items order e h = subst (λ n. IsPermutation (range_with_len 0 n) order) e h

pub items_permuted : (items picked places : List ℕ) → ArePlaces items places → picked ≡ map (λ place. get_or items place 0) places → IsPermutation items picked
items_permuted items picked places h e =
    let by_map : IsPermutation (map (λ place. get_or items place 0) (range_with_len 0 (length items))) (map (λ place. get_or items place 0) places) =
    IsPermutation-map (λ place. get_or items place 0) (range_with_len 0 (length items)) places h in
    let whole : items ≡ map (λ place. get_or items place 0) (range_with_len 0 (length items)) = fill_by_all (λ place. get_or items place 0) items (length items) 0 refl (λ k i. refl) in
    subst (λ (ps : List ℕ). IsPermutation ps picked) (sym whole) (subst (λ (qs : List ℕ). IsPermutation (map (λ place. get_or items place 0) (range_with_len 0 (length items))) qs) (sym e) by_map)

pub places_again : {K : Type 0} (items : List K) (order again : List ℕ) → ArePlaces items order → IsPermutation order again → ArePlaces items again
places_again items order again h i = IsPermutation-trans (range_with_len 0 (length items)) order again h i
