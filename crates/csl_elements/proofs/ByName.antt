-- The first value of a name in a list is the one that has this name, if each value is the first of its
-- own name there.
use Rattle.std.proofs.Common.{◌≡◌, ◌↔◌, ℕ, Bool, true, false, List, [], ◌∷◌, Option, Some, IfSome, find, if◌then◌else◌, bytes_eq, refl, sym, subst, ◌∙◌}
use Rattle.std.proofs.lemmas.Slice.Eq.{bytes_eq-Decides}

-- the item that is found passes the test
first_or : {X : Type 0} (p : X → Bool) (x : X) (o : Option X) (b : Bool) → p x ≡ b → IfSome o (λ y. p y ≡ true) → IfSome (if b then Some x else o) (λ y. p y ≡ true)
first_or p x o true e h = e
first_or p x o false e h = h

found_passes : {X : Type 0} (p : X → Bool) (xs : List X) → IfSome (find p xs) (λ y. p y ≡ true)
found_passes p [] = tt
found_passes p (x ∷ xs) = first_or p x (find p xs) (p x) refl (found_passes p xs)

pub passes : {X : Type 0} (p : X → Bool) (xs : List X) (x : X) → find p xs ≡ Some x → p x ≡ true
passes p xs x e = subst (λ o. IfSome o (λ y. p y ≡ true)) e (found_passes p xs)

pub named : {T : Type 0} (name_of : T → List ℕ) (all : List T) → ((t : T) → find (λ u. bytes_eq (name_of u) (name_of t)) all ≡ Some t) → (name : List ℕ) (found : Option T) → found ≡ find (λ u. bytes_eq (name_of u) name) all → (t : T) → (found ≡ Some t) ↔ (name ≡ name_of t)
named name_of all own name found e t = (
  λ f. sym ((bytes_eq-Decides (name_of t) name).0 (passes (λ u. bytes_eq (name_of u) name) all t (sym e ∙ f))),
  λ f. e ∙ subst (λ n. find (λ u. bytes_eq (name_of u) n) all ≡ Some t) (sym f) (own t),
)
