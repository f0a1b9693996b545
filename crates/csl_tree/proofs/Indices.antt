-- Items of a list by index.
use Rattle.std.proofs.Common.{◌≡◌, ℕ, ◌<◌, suc, zero, List, [], ◌∷◌, length, map, get_or, refl, ap, ◌∙◌, arith, slice_index_or}

get_or_default : {A : Type 0} (xs : List A) (i : ℕ) (d e : A) → i < length xs → get_or xs i d ≡ get_or xs i e
get_or_default [] i d e h = absurd (omega arith)
get_or_default (x ∷ xs) zero d e h = refl
get_or_default (x ∷ xs) (suc i) d e h = get_or_default xs i d e (omega arith)

pub at_index : {A : Type 0} (xs : List A) (i j : ℕ) (d : A) {x : A} → i ≡ j → i < length xs → x ≡ slice_index_or xs i x → x ≡ slice_index_or xs j d
at_index xs i j d {x} e h is = is ∙ get_or_default xs i x d h ∙ ap (λ k. get_or xs k d) e

pub get_or_map : {A B : Type 0} (f : A → B) (xs : List A) (i : ℕ) (d : A) (e : B) → i < length xs → get_or (map f xs) i e ≡ f (get_or xs i d)
get_or_map f [] i d e h = absurd (omega arith)
get_or_map f (x ∷ xs) zero d e h = refl
get_or_map f (x ∷ xs) (suc i) d e h = get_or_map f xs i d e (omega arith)

pub length_map : {A B : Type 0} (f : A → B) (xs : List A) → length (map f xs) ≡ length xs
length_map f [] = refl
length_map f (x ∷ xs) = ap suc (length_map f xs)
