-- A stack is a list of at least one item, and contracts see the list. When a mutable reference to
-- an item ends, the list has the last value written there, and is otherwise unchanged. The last
-- item that a predicate accepts is one that it accepts while it rejects each later one.
use Rattle.std.specs.Prelude.{Bool, true, false, ◌+◌, ◌≤◌, ◌≡◌, ℕ, ◌<◌, List, length, Option, slice_index_or, slice_set, IfSome}
use Rattle.std.specs.Borrow.{Bor, Fml, RattleType, MutBor, Lends, LendsSo}
use Rattle.std.specs.Fn.{Shared, FnReturnsAt}
use Rattle.csl_tree.specs.contracts.stack.NonEmptyStack.{the_row}

-- the predicate rejects each item from place i on
abbrev pub RejectsFrom : {F T : Type 0} → Shared F (Bor T × Unit {0}) Bool → F → List T → ℕ → Type 0
RejectsFrom {F} {T} calls f xs i = (k : ℕ) (d : T) → i ≤ k → k < length xs → FnReturnsAt calls f (slice_index_or xs k d) false

-- the predicate accepts item i, and no later one
abbrev pub IsLastAt : {F T : Type 0} → Shared F (Bor T × Unit {0}) Bool → F → List T → ℕ → Type 0
IsLastAt {F} {T} calls f xs i = ((d : T) → FnReturnsAt calls f (slice_index_or xs i d) true) × RejectsFrom calls f xs (i + 1)

-- item i is x, and the last that the predicate accepts
abbrev pub IsLastAccepted : {F T : Type 0} → Shared F (Bor T × Unit {0}) Bool → F → List T → ℕ → T → Type 0
IsLastAccepted calls f xs i x = (i < length xs) × IsLastAt calls f xs i × (x ≡ slice_index_or xs i x)

module _ (T : RattleType) (s : MutBor (List T.Denot)) where
  -- item i gets the last value of r
  abbrev pub lends_item : ℕ → MutBor T.Denot → Fml
  lends_item i r = Lends (the_row T) T s r (slice_set s.now i)

  -- r refers to the last item that the predicate accepts, and that item gets the last value of r;
  -- at `None` the stack is unchanged
  abbrev pub lends_accepted : {F : Type 0} → Shared F (Bor T.Denot × Unit {0}) Bool → F → Option (MutBor T.Denot) → Fml
  lends_accepted calls f r = LendsSo (the_row T) T s r (λ n w. IfSome r (λ x. (i : ℕ) × IsLastAccepted calls f s.now i x.now × (n ≡ slice_set s.now i w))) (λ n. n ≡ s.now)
