-- The joined texts of a chain of iterators.
use Rattle.std.proofs.Common.{◌≡◌, ℕ, List, ◌++◌, map, Result, Option, sym, ap, ◌∙◌}
use Rattle.std.specs.Borrow.{Bor}
use Rattle.std.specs.Prelude.{OnOk, MatchResult}
use Rattle.std.specs.Iterator.{Drains, Yields}
use Rattle.std.specs.List.{flat_map}
use Rattle.std.proofs.lemmas.Iterator.{YieldsList}
use Rattle.std.proofs.lemmas.Iterator.Adapters.{fact_from_extend}
use Rattle.std.proofs.lemmas.Iterator.Consumers.{YieldsList-at}
use Rattle.std.proofs.lemmas.List.Folds.{flat_map-map}

-- the bytes of borrowed texts, joined
pub joined_now : (xs : List (Bor (List ℕ))) (all : List (List ℕ)) → map (λ x. x.now) xs ≡ all → flat_map (λ x. x.now) xs ≡ flat_map (λ x. x) all
joined_now xs all e = sym (flat_map-map (λ x. x) (λ x. x.now) xs) ∙ ap (λ (l : List (List ℕ)). flat_map (λ x. x) l) e

-- the bytes that a chain of texts adds to a `String`
pub text_from_extend : {T E : Type 0} (steps : T → Option (Bor (List ℕ)) → T → Type 0) (s : T) (all : List (List ℕ)) (before after : List ℕ) (r : Result (Unit {0}) E) → ((it : T) × (xs : List (Bor (List ℕ))) × (it ≡ s) × (after ≡ before ++ flat_map (λ x. x.now) xs) × MatchResult r (λ _. Drains steps it xs) (λ _. (t : T) × Yields steps it xs t)) → YieldsList steps (λ x. x.now) s all → OnOk r (after ≡ before ++ flat_map (λ x. x) all)
text_from_extend steps s all before after r ran road = fact_from_extend {all = all} {B = λ it. it ≡ s} {P = λ xs. after ≡ before ++ flat_map (λ x. x.now) xs} (λ x. x.now) r ran (λ it b. YieldsList-at b road) (λ xs e h. h ∙ ap (λ t. before ++ t) (joined_now xs all e))
