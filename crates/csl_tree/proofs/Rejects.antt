-- The results of a predicate for the items of a list, from its result for the item that was read.
use Rattle.std.proofs.Common.{◌≡◌, ℕ, ◌+◌, ◌<◌, ◌≤◌, Bool, false, List, length, get_or, Bor, inl, inr, subst, arith}
use Rattle.std.specs.Fn.{Shared, FnReturnsAt}
use Rattle.std.proofs.lemmas.List.{get_or_read}
use Rattle.std.proofs.lemmas.Bool.{cases_lt}
use Rattle.csl_tree.specs.Stack.{RejectsFrom}

module _ {F T : Type 0} (calls : Shared F (Bor T × Unit {0}) Bool) (f : F) (xs : List T) (x : T) (j : ℕ) (within : j < length xs) (is : x ≡ get_or xs j x) where
  pub answers_at : (v : Bool) → FnReturnsAt calls f x v → (d : T) → FnReturnsAt calls f (get_or xs j d) v
  answers_at v h d = subst (λ y. FnReturnsAt calls f y v) (get_or_read xs j x within is d) h

  pub rejects_more : (i : ℕ) → i ≤ j + 1 → FnReturnsAt calls f x false → RejectsFrom calls f xs i → RejectsFrom calls f xs j
  rejects_more i e h more k d low high = elim (cases_lt j k) [
    | inl after ↦ more k d (omega arith) high
    | inr here ↦ let same : j ≡ k = omega arith in subst (λ (n : ℕ). FnReturnsAt calls f (get_or xs n d) false) same (answers_at false h d)
  ]
