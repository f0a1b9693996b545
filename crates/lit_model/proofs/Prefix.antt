-- Let each entry show an item that determines its number of parents. Then the items of an entry in
-- preorder determine where they end and what each parent shows.
use Rattle.std.proofs.Common.{◌≡◌, ℕ, zero, suc, ◌<◌, List, [], ◌∷◌, ◌++◌, length, map, refl, sym, ap, ◌∙◌, arith, append_assoc}
use Rattle.std.specs.List.{flat_map}
use Rattle.std.proofs.lemmas.List.{map-append}
use Rattle.std.proofs.lemmas.List.Folds.{flat_map-map}
use Rattle.lit_model.specs.Entry.{parents_of, preorder}
use Rattle.lit_model.specs.declared.entry.Entry.{Entry}
use Rattle.lit_model.proofs.Depth.{EachOf, depth_of, parents_less}
use Rattle.lit_model.proofs.Preorder.{preorder_out}

map-flat_map : {A B C : Type 0} (f : B → C) (g : A → List B) (xs : List A) → map f (flat_map g xs) ≡ flat_map (λ x. map f (g x)) xs
map-flat_map f g [] = refl
map-flat_map f g (x ∷ xs) = map-append f (g x) (flat_map g xs) ∙ ap (λ l. map f (g x) ++ l) (map-flat_map f g xs)

module _ {W : Type 0} (w : Entry → W) (tells : (a b : Entry) → w a ≡ w b → length (parents_of a) ≡ length (parents_of b)) where
  abbrev pub shown : Entry → List W
  shown e = map w (preorder e)

  pub shown_out : (e : Entry) → shown e ≡ w e ∷ flat_map shown (parents_of e)
  shown_out e = ap (map w) (preorder_out e) ∙ ap (λ l. w e ∷ l) (map-flat_map w preorder (parents_of e))

  -- For two entries, the first of depth less than n: if two equal lists begin with their items,
  -- these items are equal, and so are the rests of the lists.
  abbrev pub Fronts : ℕ → Type 0
  Fronts n = (a b : Entry) (r s : List W) → depth_of a < n → shown a ++ r ≡ shown b ++ s → (shown a ≡ shown b) × (r ≡ s)

  all_fronts : (n : ℕ) → Fronts n → (xs ys : List Entry) (r s : List W) → EachOf (λ y. depth_of y < n) xs → length xs ≡ length ys → flat_map shown xs ++ r ≡ flat_map shown ys ++ s → (map shown xs ≡ map shown ys) × (r ≡ s)
  all_fronts n each [] [] r s p l h = (refl, h)
  all_fronts n each [] (y ∷ ys) r s p l h = absurd (omega (arith, l))
  all_fronts n each (x ∷ xs) [] r s p l h = absurd (omega (arith, l))
  all_fronts n each (x ∷ xs) (y ∷ ys) r s p l h =
      let here = each x y (flat_map shown xs ++ r) (flat_map shown ys ++ s) p.0 (sym (append_assoc (shown x) (flat_map shown xs) r) ∙ h ∙ append_assoc (shown y) (flat_map shown ys) s) in
      let rest = all_fronts n each xs ys r s p.1 (omega (arith, l)) here.1 in
      (λ i. here.0 i ∷ rest.0 i, rest.1)

  head_of : {x y : W} {xs ys : List W} → ◌≡◌ {A = List W} (x ∷ xs) (y ∷ ys) → (x ≡ y) × (xs ≡ ys)
  head_of h = (cc, cc)

  pub fronts : (n : ℕ) → Fronts n
  fronts zero a b r s p h = absurd (omega (arith, p))
  fronts (suc n) a b r s p h =
      let opened : ◌≡◌ {A = List W} (w a ∷ (flat_map shown (parents_of a) ++ r)) (w b ∷ (flat_map shown (parents_of b) ++ s)) = ap (λ l. l ++ r) (sym (shown_out a)) ∙ h ∙ ap (λ l. l ++ s) (shown_out b) in
      let both = head_of opened in
      let inside = all_fronts n (fronts n) (parents_of a) (parents_of b) r s (parents_less a n (omega (arith, p))) (tells a b both.0) both.1 in
      (shown_out a ∙ ap (λ l. w a ∷ l) (sym (flat_map-map (λ (l : List W). l) shown (parents_of a))) ∙ (λ i. both.0 i ∷ flat_map (λ (l : List W). l) (inside.0 i)) ∙ ap (λ l. w b ∷ l) (flat_map-map (λ (l : List W). l) shown (parents_of b)) ∙ sym (shown_out b), inside.1)

  -- two entries show the same exactly if their own items are equal and each parent shows the same
  pub shown_same : (a b : Entry) → w a ≡ w b → map shown (parents_of a) ≡ map shown (parents_of b) → shown a ≡ shown b
  shown_same a b own parents =
      shown_out a ∙ ap (λ l. w a ∷ l) (sym (flat_map-map (λ (l : List W). l) shown (parents_of a))) ∙ (λ i. own i ∷ flat_map (λ (l : List W). l) (parents i)) ∙ ap (λ l. w b ∷ l) (flat_map-map (λ (l : List W). l) shown (parents_of b)) ∙ sym (shown_out b)

  pub same_shown : (a b : Entry) → shown a ≡ shown b → (w a ≡ w b) × (map shown (parents_of a) ≡ map shown (parents_of b))
  same_shown a b h =
      let opened : ◌≡◌ {A = List W} (w a ∷ flat_map shown (parents_of a)) (w b ∷ flat_map shown (parents_of b)) = sym (shown_out a) ∙ h ∙ shown_out b in
      let both = head_of opened in
      let inside = all_fronts (depth_of a) (fronts (depth_of a)) (parents_of a) (parents_of b) [] [] (parents_less a (depth_of a) (omega arith)) (tells a b both.0) (ap (λ l. l ++ []) both.1) in
      (both.0, inside.0)
