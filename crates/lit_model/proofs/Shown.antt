-- A copy of a list shows the same.
use Rattle.std.proofs.Common.{◌≡◌, List, [], ◌∷◌, map, refl, String, Global, string_bytes}
use Rattle.std.specs.List.{AllZip}
use Rattle.lit_model.specs.Source.{scheme_and_number}

-- a list that copies another item by item shows the same
pub map-AllZip : {A B : Type 0} (R : A → A → Type 0) (v : A → B) → ((x y : A) → R x y → v y ≡ v x) → (xs ys : List A) → AllZip R xs ys → map v ys ≡ map v xs
map-AllZip R v same [] [] h = refl
map-AllZip R v same [] (y ∷ ys) h = absurd h
map-AllZip R v same (x ∷ xs) [] h = absurd h
map-AllZip R v same (x ∷ xs) (y ∷ ys) h = let here = same x y h.0 in let rest = map-AllZip R v same xs ys h.1 in cc

abbrev Texts : Type 0
Texts = String Global × String Global

-- a list of pairs of texts that copies another pair by pair has the same bytes
pub pairs-AllZip : (es fs : List Texts) → AllZip (λ p q. (string_bytes q.0 ≡ string_bytes p.0) × (string_bytes q.1 ≡ string_bytes p.1)) es fs → map scheme_and_number fs ≡ map scheme_and_number es
pairs-AllZip es fs h = map-AllZip (λ (p q : Texts). (string_bytes q.0 ≡ string_bytes p.0) × (string_bytes q.1 ≡ string_bytes p.1)) scheme_and_number (λ x y k. let a = k.0 in let b = k.1 in cc) es fs h
