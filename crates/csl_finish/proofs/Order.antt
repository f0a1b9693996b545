-- Places in the order of their keys.
use Rattle.std.proofs.Common.{◌≡◌, ◌∙◌, ◌<◌, ◌≤◌, ℕ, suc, ◌+◌, ◌-◌, List, [], ◌∷◌, ◌++◌, get_or, map, length, refl, sym, ap, subst, arith}
use Rattle.std.specs.List.{All, range_with_len}
use Rattle.std.specs.List.Sorted.{IsPermutation, IsSorted}
use Rattle.std.specs.declared.cmp.Ordering.{Ordering}
use Rattle.std.proofs.lemmas.List.Elements.{All-nil, All-cons, All-head, All-tail}
use Rattle.std.proofs.lemmas.List.Sorted.{All-permutation, IsPermutation-map}
use Rattle.csl_finish.specs.Keys.{placed_from, by_key_then_place, ArePlaces, AreInOrder}

pub placed_more : {K : Type 0} (n m : ℕ) (xs : List K) (x : K) → m ≡ n + length xs → placed_from n (xs ++ x ∷ []) ≡ placed_from n xs ++ (x, m) ∷ []
placed_more n m [] x e = ap (λ i. (x, i) ∷ []) (omega arith)
placed_more n m (y ∷ xs) x e = ap (λ ps. (y, n) ∷ ps) (placed_more (n + 1) m xs x (omega arith))

places : {K : Type 0} (n : ℕ) (keys : List K) → map (λ (p : K × ℕ). p.1) (placed_from n keys) ≡ range_with_len n (length keys)
places n [] = refl
places n (key ∷ keys) = ap (λ ps. n ∷ ps) (places (n + 1) keys)

-- the key at the place, from the first one on, and the place
module _ {K : Type 0} (d : K) where
  abbrev from : ℕ → List K → ℕ → K × ℕ
  from n keys place = (get_or keys (place - n) d, place)

  next : (n : ℕ) (key : K) (keys : List K) (p : K × ℕ) → (n + 1 ≤ p.1) × (from (n + 1) keys p.1 ≡ p) → (n ≤ p.1) × (from n (key ∷ keys) p.1 ≡ p)
  next n key keys p h =
      let e : p.1 - n ≡ suc (p.1 - (n + 1)) = omega (arith, h.0) in
      (omega (arith, h.0), ap (λ i. (get_or (key ∷ keys) i d, p.1)) e ∙ h.1)

  All-next : (n : ℕ) (key : K) (keys : List K) (ps : List (K × ℕ)) → All (λ p. (n + 1 ≤ p.1) × (from (n + 1) keys p.1 ≡ p)) ps → All (λ p. (n ≤ p.1) × (from n (key ∷ keys) p.1 ≡ p)) ps
  All-next n key keys [] a = All-nil (λ p. (n ≤ p.1) × (from n (key ∷ keys) p.1 ≡ p))
  All-next n key keys (p ∷ ps) a =
      All-cons (λ p. (n ≤ p.1) × (from n (key ∷ keys) p.1 ≡ p)) p ps
      (next n key keys p (All-head (λ p. (n + 1 ≤ p.1) × (from (n + 1) keys p.1 ≡ p)) p ps a))
      (All-next n key keys ps (All-tail (λ p. (n + 1 ≤ p.1) × (from (n + 1) keys p.1 ≡ p)) p ps a))

  All-placed : (n : ℕ) (keys : List K) → All (λ p. (n ≤ p.1) × (from n keys p.1 ≡ p)) (placed_from n keys)
  All-placed n [] = All-nil (λ p. (n ≤ p.1) × (from n [] p.1 ≡ p))
  All-placed n (key ∷ keys) =
      let zero_is : n - n ≡ 0 = omega arith in
      All-cons (λ p. (n ≤ p.1) × (from n (key ∷ keys) p.1 ≡ p)) (key, n) (placed_from (n + 1) keys)
      (omega arith, ap (λ i. (get_or (key ∷ keys) i d, n)) zero_is)
      (All-next n key keys (placed_from (n + 1) keys) (All-placed (n + 1) keys))

  by_places : (keys : List K) (ps : List (K × ℕ)) → All (λ p. (0 ≤ p.1) × (from 0 keys p.1 ≡ p)) ps → map (λ place. (get_or keys place d, place)) (map (λ (p : K × ℕ). p.1) ps) ≡ ps
  by_places keys [] a = refl
  by_places keys (p ∷ ps) a =
      let e : p.1 ≡ p.1 - 0 = omega arith in
      let first = ap (λ i. (get_or keys i d, p.1)) e ∙ (All-head (λ p. (0 ≤ p.1) × (from 0 keys p.1 ≡ p)) p ps a).1 in
      ap (λ q. q ∷ map (λ place. (get_or keys place d, place)) (map (λ (p : K × ℕ). p.1) ps)) first
      ∙ ap (λ qs. p ∷ qs) (by_places keys ps (All-tail (λ p. (0 ≤ p.1) × (from 0 keys p.1 ≡ p)) p ps a))

pub places_are : {K : Type 0} (keys : List K) (ps : List (K × ℕ)) (order : List ℕ) → IsPermutation (placed_from 0 keys) ps → order ≡ map (λ p. p.1) ps → ArePlaces keys order
places_are {K} keys ps order h e =
    let by_map : IsPermutation (map (λ (p : K × ℕ). p.1) (placed_from 0 keys)) (map (λ (p : K × ℕ). p.1) ps) = IsPermutation-map (λ (p : K × ℕ). p.1) (placed_from 0 keys) ps h in
    subst (λ (os : List ℕ). IsPermutation (range_with_len 0 (length keys)) os) (sym e) (subst (λ (os : List ℕ). IsPermutation os (map (λ (p : K × ℕ). p.1) ps)) (places 0 keys) by_map)

pub order_is : {K : Type 0} (cmp : K → K → Ordering) (keys : List K) (ps : List (K × ℕ)) (order : List ℕ) → IsPermutation (placed_from 0 keys) ps → IsSorted (by_key_then_place cmp) ps → order ≡ map (λ p. p.1) ps → AreInOrder cmp keys order
order_is {K} cmp keys ps order h s e d =
    let all = All-permutation (λ p. (0 ≤ p.1) × (from d 0 keys p.1 ≡ p)) (placed_from 0 keys) ps h (All-placed d 0 keys) in
    let same = ap (map (λ place. (get_or keys place d, place))) e ∙ by_places d keys ps all in
    subst (λ (qs : List (K × ℕ)). IsSorted (by_key_then_place cmp) qs) (sym same) s

length_placed : {K : Type 0} (n : ℕ) (xs : List K) → length (placed_from n xs) ≡ length xs
length_placed n [] = refl
length_placed n (x ∷ xs) = ap suc (length_placed (n + 1) xs)

pub placed_push : {K : Type 0} (xs : List K) (x : K) → placed_from 0 (xs ++ x ∷ []) ≡ placed_from 0 xs ++ (x, length (placed_from 0 xs)) ∷ []
placed_push xs x = placed_more 0 (length (placed_from 0 xs)) xs x (omega (arith, length_placed 0 xs))

pub placed_step : {K : Type 0} (ps qs : List (K × ℕ)) (xs : List K) (x : K) (place : ℕ) → ps ≡ placed_from 0 xs → place ≡ length ps → qs ≡ ps ++ (x, place) ∷ [] → qs ≡ placed_from 0 (xs ++ x ∷ [])
placed_step {K} ps qs xs x place h e g =
    g ∙ ap (λ (rs : List (K × ℕ)). rs ++ (x, place) ∷ []) h
    ∙ ap (λ i. placed_from 0 xs ++ (x, i) ∷ []) (e ∙ ap length h)
    ∙ sym (placed_push xs x)

pub ruleset placing = (placed_push, placed_more)
