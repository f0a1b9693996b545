-- The number of marked places.
use Rattle.std.proofs.Common.{◌≡◌, ◌≢◌, ℕ, zero, suc, ◌<◌, ◌≤◌, ◌+◌, List, [], ◌∷◌, length, slice_index, set, replicate, Bool, true, false, nat_eq, refl, ap, arith, ◌⊎◌, inl, inr, get_or-set_same, get_or-set_other}
use Rattle.std.proofs.lemmas.Bool.Decides.{nat_tests}
use Rattle.csl_style.specs.Cycles.{is_marked}

abbrev pub marks : List Bool → ℕ
marks [] = 0
marks (true ∷ bs) = suc (marks bs)
marks (false ∷ bs) = marks bs

-- each place that is marked in the first list is marked in the second
abbrev pub Within : List Bool → List Bool → Type 0
Within xs ys = (q : ℕ) → is_marked xs q ≡ true → is_marked ys q ≡ true

-- ---- no place is marked

pub marks-none : (n : ℕ) → marks (replicate n false) ≡ 0
marks-none zero = refl
marks-none (suc n) = marks-none n

pub none-marked : (n q : ℕ) → is_marked (replicate n false) q ≡ false
none-marked zero q = refl
none-marked (suc n) zero = refl
none-marked (suc n) (suc q) = none-marked n q

-- ---- one more place is marked

pub marks-set : (ys : List Bool) (q : ℕ) → q < length ys → is_marked ys q ≡ false → marks (set ys q true) ≡ suc (marks ys)
marks-set [] q less h = absurd (omega arith)
marks-set (true ∷ ys) zero less h = grind arith
marks-set (false ∷ ys) zero less h = refl
marks-set (true ∷ ys) (suc q) less h = ap suc (marks-set ys q (omega arith) h)
marks-set (false ∷ ys) (suc q) less h = marks-set ys q (omega arith) h

module _ (seen : List Bool) (q : ℕ) (inside : q < length seen) where
  before-by : (p : ℕ) (b : Bool) → nat_eq p q ≡ b → is_marked (set seen q true) p ≡ true → (p ≡ q) ⊎ (is_marked seen p ≡ true)
  before-by p true e h = inl (grind (arith, nat_tests))
  before-by p false e h = let other : p ≢ q = grind (arith, nat_tests) in inr (rw get_or-set_other at h)

  pub marked-before : (p : ℕ) → is_marked (set seen q true) p ≡ true → (p ≡ q) ⊎ (is_marked seen p ≡ true)
  marked-before p h = before-by p (nat_eq p q) refl h

  still-by : (p : ℕ) (b : Bool) → nat_eq p q ≡ b → is_marked seen p ≡ true → is_marked (set seen q true) p ≡ true
  still-by p true e h = let same : p ≡ q = grind (arith, nat_tests) in rw same (get_or-set_same seen q true false inside)
  still-by p false e h = let other : p ≢ q = grind (arith, nat_tests) in rw get_or-set_other h

  pub still-marked : (p : ℕ) → is_marked seen p ≡ true → is_marked (set seen q true) p ≡ true
  still-marked p h = still-by p (nat_eq p q) refl h

-- ---- no more marks than places

pub marks-le : (ys : List Bool) → marks ys ≤ length ys
marks-le [] = omega arith
marks-le (true ∷ ys) = let h = marks-le ys in omega arith
marks-le (false ∷ ys) = let h = marks-le ys in omega arith

pub marks-short : (ys : List Bool) (q : ℕ) → q < length ys → is_marked ys q ≡ false → marks ys < length ys
marks-short [] q less h = absurd (omega arith)
marks-short (true ∷ ys) zero less h = grind arith
marks-short (false ∷ ys) zero less h = let k = marks-le ys in omega arith
marks-short (true ∷ ys) (suc q) less h = let k = marks-short ys q (omega arith) h in omega arith
marks-short (false ∷ ys) (suc q) less h = let k = marks-short ys q (omega arith) h in omega arith

-- ---- two lists, one within the other

pub marks-fewer : (xs ys : List Bool) → length xs ≡ length ys → Within xs ys → marks xs ≤ marks ys
marks-fewer [] ys e h = omega arith
marks-fewer (a ∷ xs) [] e h = absurd (omega arith)
marks-fewer (true ∷ xs) (true ∷ ys) e h = let k = marks-fewer xs ys (omega arith) (λ q. h (suc q)) in omega arith
marks-fewer (true ∷ xs) (false ∷ ys) e h = let k = h 0 refl in grind arith
marks-fewer (false ∷ xs) (true ∷ ys) e h = let k = marks-fewer xs ys (omega arith) (λ q. h (suc q)) in omega arith
marks-fewer (false ∷ xs) (false ∷ ys) e h = marks-fewer xs ys (omega arith) (λ q. h (suc q))

pub marks-less : (xs ys : List Bool) (q : ℕ) → length xs ≡ length ys → Within xs ys → is_marked xs q ≡ false → is_marked ys q ≡ true → marks xs < marks ys
marks-less [] [] q e h unmarked marked = grind arith
marks-less [] (b ∷ ys) q e h unmarked marked = absurd (omega arith)
marks-less (a ∷ xs) [] q e h unmarked marked = absurd (omega arith)
marks-less (true ∷ xs) (b ∷ ys) zero e h unmarked marked = grind arith
marks-less (false ∷ xs) (false ∷ ys) zero e h unmarked marked = grind arith
marks-less (false ∷ xs) (true ∷ ys) zero e h unmarked marked = let k = marks-fewer xs ys (omega arith) (λ q. h (suc q)) in omega arith
marks-less (true ∷ xs) (true ∷ ys) (suc q) e h unmarked marked = let k = marks-less xs ys q (omega arith) (λ q. h (suc q)) unmarked marked in omega arith
marks-less (true ∷ xs) (false ∷ ys) (suc q) e h unmarked marked = let k = h 0 refl in grind arith
marks-less (false ∷ xs) (true ∷ ys) (suc q) e h unmarked marked = let k = marks-less xs ys q (omega arith) (λ q. h (suc q)) unmarked marked in omega arith
marks-less (false ∷ xs) (false ∷ ys) (suc q) e h unmarked marked = marks-less xs ys q (omega arith) (λ q. h (suc q)) unmarked marked

-- ---- along a row

-- the first i places of the row are marked
abbrev pub FirstMarked : List Bool → List ℕ → ℕ → Type 0
FirstMarked seen row i = (k : ℕ) → k < i → is_marked seen (slice_index row k) ≡ true

pub first-marked-more : (seen : List Bool) (row : List ℕ) (i : ℕ) → FirstMarked seen row i → is_marked seen (slice_index row i) ≡ true → FirstMarked seen row (i + 1)
first-marked-more seen row i h here k less = more-by (nat_eq k i) refl where
  more-by : (b : Bool) → nat_eq k i ≡ b → is_marked seen (slice_index row k) ≡ true
  more-by true e = let same : k ≡ i = grind (arith, nat_tests) in rw same here
  more-by false e = h k (grind (arith, nat_tests))
