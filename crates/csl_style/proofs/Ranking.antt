-- If no place leads to itself, the number of places that a place leads to is its rank.
use Rattle.std.proofs.Common.{◌≡◌, ℕ, zero, suc, ◌<◌, ◌≤◌, List, [], ◌∷◌, ◌++◌, length, slice_index, Bool, true, false, nat_eq, refl, sym, ap, ◌∙◌, arith, length-append}
use Rattle.std.proofs.lemmas.Bool.Decides.{nat_tests}
use Rattle.csl_style.specs.Cycles.{Graph, InRange, HasEdge, Reaches, along_edge, along_edges, is_marked, IsReach, ArePlaceRanks, HasRanks}
use Rattle.csl_style.proofs.Marks.{marks, Within, marks-less, marks-short}
use Rattle.csl_style.proofs.Edges.{edge-within, edge-from}
use Rattle.csl_style.proofs.Searching.{before-push, last-push}

-- a search from the place does not come back to it
pub record ReachesNotItself (g : Graph) (k : ℕ) : Type 0 where
  pub seen : List Bool
  pub reach : IsReach g k seen
  pub unmarked : is_marked seen k ≡ false

pub reaches-not : {g : Graph} {k : ℕ} → ReachesNotItself g k → Reaches g k k → ⊥
reaches-not {g} {k} r l = let e = r.reach.complete k l in let f = r.unmarked in grind arith

module _ (g : Graph) (range : InRange g (length g)) (all_not : (k : ℕ) → k < length g → ReachesNotItself g k) where
  -- the rank is the number of places that k leads to
  record Counts (k rank : ℕ) : Type 0 where
    to : ReachesNotItself g k
    is : rank ≡ marks to.seen

  abbrev Counted : ℕ → List ℕ → Type 0
  Counted n ranks = (length ranks ≡ n) × ((k : ℕ) → k < n → Counts k (slice_index ranks k))

  count-more : (n : ℕ) (ranks : List ℕ) (rank : ℕ) → Counted n ranks → Counts n rank → Counted (suc n) (ranks ++ rank ∷ [])
  count-more n ranks rank (each, all) one =
      (length-append ranks (rank ∷ []) ∙ omega arith, λ k less. by k (nat_eq k n) refl less) where
        by : (k : ℕ) (b : Bool) → nat_eq k n ≡ b → k < suc n → Counts k (slice_index (ranks ++ rank ∷ []) k)
        by k true e less =
            let same : k ≡ n = grind (arith, nat_tests) in
            let here : slice_index (ranks ++ rank ∷ []) n ≡ rank = ap (slice_index (ranks ++ rank ∷ [])) (sym each) ∙ last-push ranks rank in
            rw (same, here) one
        by k false e less =
            let under : k < n = grind (arith, nat_tests) in
            rw (before-push ranks rank k (omega arith)) (all k under)

  count-to : (n : ℕ) → n ≤ length g → (ranks : List ℕ) × Counted n ranks
  count-to zero le = ([], (refl, λ k less. absurd (omega arith)))
  count-to (suc n) le =
      let (ranks, so) = count-to n (omega arith) in
      let to = all_not n (omega arith) in
      (ranks ++ marks to.seen ∷ [], count-more n ranks (marks to.seen) so (record { to = to; is = refl }))

  -- a leads to each place that b leads to, and to b itself, which b does not lead to
  falls : (a b i j : ℕ) → Counts a i → Counts b j → HasEdge g a b → j < i
  falls a b i j x y edge =
      let from_a = x.to in
      let from_b = y.to in
      let same = from_b.reach.each ∙ sym from_a.reach.each in
      let within : Within from_b.seen from_a.seen = λ q h. from_a.reach.complete q (along_edges edge (from_b.reach.sound q h)) in
      let less = marks-less from_b.seen from_a.seen b same within from_b.unmarked (from_a.reach.complete b (along_edge edge)) in
      omega (arith, x.is, y.is)

  short : (a i : ℕ) → a < length g → Counts a i → i < length g
  short a i within x =
      let s = marks-short x.to.seen a (omega (arith, x.to.reach.each)) x.to.unmarked in
      omega (arith, x.is, x.to.reach.each)

  pub ranks-from : HasRanks g
  ranks-from =
      let (ranks, (each, all)) = count-to (length g) (omega arith) in (
        ranks,
        record {
          each = each;
          small = λ a within. short a (slice_index ranks a) within (all a within);
          fall = λ a b edge.
              falls a b (slice_index ranks a) (slice_index ranks b) (all a (edge-from g a b edge)) (all b (edge-within g (length g) a b range edge)) edge;
        },
      )

-- ranks fall along each path, so no place of a graph with ranks leads back to itself
pub ranks-fall : {g : Graph} {ranks : List ℕ} → ArePlaceRanks g ranks → {a b : ℕ} → Reaches g a b → slice_index ranks b < slice_index ranks a
ranks-fall ok (along_edge {a} {b} h) = ok.fall a b h
ranks-fall ok (along_edges {a} {b} h l) =
    let first = ok.fall a b h in
    let rest = ranks-fall ok l in
    omega arith
