-- Numbers that fall along each edge, one place and one edge at a time.
use Rattle.std.proofs.Common.{◌≡◌, ℕ, ◌+◌, ◌<◌, ◌≤◌, List, length, slice_index, Bool, true, false, nat_eq, refl, sym, ◌∙◌, subst, arith, Contains}
use Rattle.std.proofs.lemmas.Bool.Decides.{nat_tests}
use Rattle.std.proofs.lemmas.Grind.{get_or_default_zero}
use Rattle.csl_style.specs.Cycles.{Graph, HasEdge, Reaches, along_edge, along_edges, ArePlaceRanks, ArePlaceLevels, Falls}
use Rattle.csl_style.proofs.Edges.{edge-from}

-- it falls along the first i edges of the row
abbrev pub FallsAlong : List ℕ → List ℕ → ℕ → ℕ → Type 0
FallsAlong ranks row a i = (k : ℕ) → k < i → slice_index ranks (slice_index row k) < slice_index ranks a

pub along-all : (ranks row : List ℕ) (a : ℕ) → FallsAlong ranks row a (length row) → (q : ℕ) → Contains row q → slice_index ranks q < slice_index ranks a
along-all ranks row a h q (k, less, is) =
    let e : slice_index row k ≡ q = sym (get_or_default_zero row k q less) ∙ is in
    subst (λ to. slice_index ranks to < slice_index ranks a) e (h k less)

pub falls-more : (g : Graph) (ranks : List ℕ) (i : ℕ) → ((k : ℕ) → k < i → Falls g ranks k) → Falls g ranks i → (k : ℕ) → k < i + 1 → Falls g ranks k
falls-more g ranks i h here k less = more-by (nat_eq k i) refl where
  more-by : (b : Bool) → nat_eq k i ≡ b → Falls g ranks k
  more-by true e = let same : k ≡ i = grind (arith, nat_tests) in rw same here
  more-by false e = h k (grind (arith, nat_tests))

pub all-fall : (g : Graph) (ranks : List ℕ) → length ranks ≡ length g → ((k : ℕ) → k < length g → Falls g ranks k) → ArePlaceRanks g ranks
all-fall g ranks e h = record {
  each = e;
  small = λ a less. (h a less).small;
  fall = λ a b edge. (h a (edge-from g a b edge)).fall b edge;
}

-- ---- levels, which stay or fall

-- the level of a place is small, and rises along none of its edges
pub record Stays (g : Graph) (levels : List ℕ) (a : ℕ) : Type 0 where
  pub small : slice_index levels a < length g
  pub stay : (b : ℕ) → HasEdge g a b → slice_index levels b ≤ slice_index levels a

-- it rises along none of the first i edges of the row
abbrev pub StaysAlong : List ℕ → List ℕ → ℕ → ℕ → Type 0
StaysAlong levels row a i = (k : ℕ) → k < i → slice_index levels (slice_index row k) ≤ slice_index levels a

pub stays-along : (levels row : List ℕ) (a : ℕ) → StaysAlong levels row a (length row) → (q : ℕ) → Contains row q → slice_index levels q ≤ slice_index levels a
stays-along levels row a h q (k, less, is) =
    let e : slice_index row k ≡ q = sym (get_or_default_zero row k q less) ∙ is in
    subst (λ to. slice_index levels to ≤ slice_index levels a) e (h k less)

pub stays-more : (g : Graph) (levels : List ℕ) (i : ℕ) → ((k : ℕ) → k < i → Stays g levels k) → Stays g levels i → (k : ℕ) → k < i + 1 → Stays g levels k
stays-more g levels i h here k less = more-by (nat_eq k i) refl where
  more-by : (b : Bool) → nat_eq k i ≡ b → Stays g levels k
  more-by true e = let same : k ≡ i = grind (arith, nat_tests) in rw same here
  more-by false e = h k (grind (arith, nat_tests))

pub all-stay : (g : Graph) (levels : List ℕ) → length levels ≡ length g → ((k : ℕ) → k < length g → Stays g levels k) → ArePlaceLevels g levels
all-stay g levels e h = record {
  each = e;
  small = λ a less. (h a less).small;
  stay = λ a b edge. (h a (edge-from g a b edge)).stay b edge;
}

pub stays-on : {g : Graph} {levels : List ℕ} → ArePlaceLevels g levels → {a b : ℕ} → Reaches g a b → slice_index levels b ≤ slice_index levels a
stays-on ok (along_edge {a} {b} h) = ok.stay a b h
stays-on ok (along_edges {a} {b} h l) =
    let first = ok.stay a b h in
    let rest = stays-on ok l in
    omega arith

falls-on : {g : Graph} {levels : List ℕ} → ArePlaceLevels g levels → {a b : ℕ} → Falls g levels a → Reaches g a b → slice_index levels b < slice_index levels a
falls-on ok falls (along_edge {a} {b} h) = falls.fall b h
falls-on ok falls (along_edges {a} {b} h l) =
    let first = falls.fall b h in
    let rest = stays-on ok l in
    omega arith

-- a place whose level falls along each of its edges does not lead back to itself
pub leads-not-back : {g : Graph} {levels : List ℕ} → ArePlaceLevels g levels → {k : ℕ} → Falls g levels k → Reaches g k k → ⊥
leads-not-back ok falls l = let less = falls-on ok falls l in absurd (omega arith)
