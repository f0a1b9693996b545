-- Lists that grow by one element.
use Rattle.std.proofs.Common.{◌≡◌, ◌<◌, ◌+◌, ◌∙◌, ℕ, List, [], ◌∷◌, ◌++◌, get_or, map, take, length, refl, sym, ap, arith}
use Rattle.std.specs.List.{range_with_len}
use Rattle.std.proofs.lemmas.List.{map-id, take_more}
use Rattle.std.proofs.lemmas.List.FromFn.{map-range_with_len_more}

pub range_more : (n : ℕ) → range_with_len 0 (n + 1) ≡ range_with_len 0 n ++ n ∷ []
range_more n =
    sym (map-id (range_with_len 0 (n + 1))) ∙ map-range_with_len_more (λ w. w) 0 n n (omega arith)
    ∙ ap (λ ws. ws ++ n ∷ []) (map-id (range_with_len 0 n))

pub mapped_more : {X : Type 0} (f : ℕ → X) (n : ℕ) → map f (range_with_len 0 (n + 1)) ≡ map f (range_with_len 0 n) ++ f n ∷ []
mapped_more f n = map-range_with_len_more f 0 n n (omega arith)

module _ {X : Type 0} (f : X → ℕ) where
  map_more : (xs : List X) (x : X) → map f (xs ++ x ∷ []) ≡ map f xs ++ f x ∷ []
  map_more [] x = refl
  map_more (y ∷ xs) x = ap (λ ns. f y ∷ ns) (map_more xs x)

  -- the numbers count
  pub counted : (xs ys : List X) (x : X) (n : ℕ) → map f xs ≡ range_with_len 0 n → f x ≡ n → ys ≡ xs ++ x ∷ [] → map f ys ≡ range_with_len 0 (n + 1)
  counted xs ys x n e same more =
      ap (map f) more ∙ map_more xs x ∙ ap (λ ns. ns ++ f x ∷ []) e ∙ ap (λ k. range_with_len 0 n ++ k ∷ []) same ∙ sym (range_more n)

  -- they are those of a list
  pub mapped : (xs ys : List X) (x : X) (ns : List ℕ) (n : ℕ) → map f xs ≡ take n ns → n < length ns → f x ≡ get_or ns n 0 → ys ≡ xs ++ x ∷ [] → map f ys ≡ take (n + 1) ns
  mapped xs ys x ns n e within same more =
      ap (map f) more ∙ map_more xs x ∙ ap (λ ms. ms ++ f x ∷ []) e ∙ ap (λ k. take n ns ++ k ∷ []) same ∙ sym (take_more ns n 0 within)
