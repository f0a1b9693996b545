-- What callers of `keep_links` know of the addresses that are left, if a call may change the closure,
-- as one that keeps an error. If no call changes it, `All-from_retain` of std is enough.
use Rattle.std.proofs.Common.{◌≡◌, Bool, true, false, List, [], ◌∷◌, refl, sym, subst}
use Rattle.std.specs.List.{items_where_true, All}
use Rattle.std.specs.List.Retain.{ReturnsInTurn, IsFiltered}
use Rattle.std.proofs.lemmas.List.Elements.{All-nil, All-cons}

-- if `Holds` is true of the closure, and each call leaves it true and accepts only what has P, then
-- all that is left has P
module _ {X F : Type 0} (called : F → X → Bool → F → Type 0) (P : X → Type 0) (Holds : F → Type 0) (one : (f : F) (x : X) (b : Bool) (g : F) → called f x b g → Holds f → (b ≡ true → P x) × Holds g) where
  in_turn : (f g : F) (bs : List Bool) (xs : List X) → Holds f → ReturnsInTurn called f bs xs g → All P (items_where_true bs xs)
  in_turn f g [] xs i t = All-nil P
  in_turn f g (b ∷ bs) [] i t = absurd t
  in_turn f g (true ∷ bs) (x ∷ xs) i t = let first = one f x true t.0 t.1 i in All-cons P x (items_where_true bs xs) (first.0 refl) (in_turn t.0 g bs xs first.1 t.2)
  in_turn f g (false ∷ bs) (x ∷ xs) i t = in_turn t.0 g bs xs (one f x false t.0 t.1 i).1 t.2

  pub All-from_calls : (f : F) (xs ys : List X) → Holds f → IsFiltered called f xs ys → All P ys
  All-from_calls f xs ys i k = subst (All P) (sym k.4) (in_turn f k.1 k.0 xs i k.3)
