-- Macros lead to each other by name exactly as their places do in the graph of calls.
use Rattle.std.proofs.Common.{◌≡◌, ℕ, List, length, slice_index, Option, Some, None, option_map, true, refl, sym, ◌∙◌, subst, arith, Contains}
use Rattle.std.proofs.lemmas.Bool.Decides.{nat_tests}
use Rattle.csl_style.specs.Cycles.{Graph, HasEdge, Reaches, along_edge, along_edges, HasRanks, ArePlaceRanks, IsFirstCyclicPlace}
use Rattle.csl_elements.specs.View.{Definition}
use Rattle.csl_style.specs.Expansion.{macro_index, macro_body, rank_of, is_below, body_below, IsAcyclic}
use Rattle.csl_style.specs.MacroCalls.{OneCalls, BodyCalls, LeadsTo, at_once, through}
use Rattle.csl_style.specs.CallGraph.{name_at, children_at, IsCallGraph}
use Rattle.csl_style.specs.Style.{IsFirstCyclic}
use Rattle.csl_style.proofs.Edges.{edge-from}
use Rattle.csl_style.proofs.Meanings.{body-none}
use Rattle.csl_style.proofs.Called.{place-is, all-from, all-into, all-below-by}

module _ (ds : List Definition) (g : Graph) (is : IsCallGraph ds g) where
  edge-to : (a b : List ℕ) (i j : ℕ) → macro_index a ds ≡ Some i → macro_index b ds ≡ Some j → BodyCalls b (macro_body a ds) → HasEdge g i j
  edge-to a b i j p q c =
      let here = place-is a ds i p in
      subst (λ tos. Contains tos j) (sym (is.rows i here.within)) (all-into ds b j q (children_at ds i) (subst (BodyCalls b) here.holds c))

  -- a name whose macro calls something has a place
  placed : (a b : List ℕ) (o : Option ℕ) → macro_index a ds ≡ o → BodyCalls b (macro_body a ds) → (i : ℕ) × (macro_index a ds ≡ Some i)
  placed a b None p c = absurd (subst (BodyCalls b) (body-none a ds p) c)
  placed a b (Some i) p c = (i, p)

  starts : {a b : List ℕ} → LeadsTo ds a b → (i : ℕ) × (macro_index a ds ≡ Some i)
  starts (at_once {a} {b} c) = placed a b (macro_index a ds) refl c
  starts (through {a} {b} c l) = placed a b (macro_index a ds) refl c

  to-places : {a b : List ℕ} → LeadsTo ds a b → (i j : ℕ) → macro_index a ds ≡ Some i → macro_index b ds ≡ Some j → Reaches g i j
  to-places (at_once {a} {b} c) i j p q = along_edge (edge-to a b i j p q c)
  to-places (through {a} {b} c l) i j p q =
      let (k, r) = starts l in
      along_edges (edge-to a b i k p r c) (to-places l k j r q)

  edge-back : (i j : ℕ) → HasEdge g i j → (b : List ℕ) × OneCalls b (children_at ds i) × (macro_index b ds ≡ Some j)
  edge-back i j h =
      let less = edge-from g i j h in
      all-from ds j (children_at ds i) (subst (λ tos. Contains tos j) (is.rows i (omega (arith, is.each))) h)

  holds-call : (a b : List ℕ) (i : ℕ) → macro_index a ds ≡ Some i → OneCalls b (children_at ds i) → BodyCalls b (macro_body a ds)
  holds-call a b i p calls = subst (BodyCalls b) (sym (place-is a ds i p).holds) calls

  to-names : {i j : ℕ} → Reaches g i j → (a : List ℕ) → macro_index a ds ≡ Some i → (b : List ℕ) × LeadsTo ds a b × (macro_index b ds ≡ Some j)
  to-names (along_edge {a = i} {b = j} h) a p =
      let (b, calls, q) = edge-back i j h in
      (b, at_once (holds-call a b i p calls), q)
  to-names (along_edges {a = i} {b = k} {c = j} h l) a p =
      let (b, calls, q) = edge-back i k h in
      let (e, on, r) = to-names l b q in
      (e, through (holds-call a b i p calls) on, r)

  -- a place that is reached is the place of a name
  ends : {i j : ℕ} → Reaches g i j → (b : List ℕ) × (macro_index b ds ≡ Some j)
  ends (along_edge {a = i} {b = j} h) = let (b, calls, q) = edge-back i j h in (b, q)
  ends (along_edges h l) = ends l

  pub first-cyclic : (i : ℕ) → IsFirstCyclicPlace g i → IsFirstCyclic ds (name_at ds i)
  first-cyclic i found =
      let (a, p) = ends found.returns in
      let (b, l, q) = to-names found.returns a p in
      let from = (place-is a ds i p).named in
      let to = (place-is b ds i q).named in
      record {
        index = i;
        here = rw from p;
        returns = subst (λ x. LeadsTo ds (name_at ds i) x) (sym to) (subst (λ x. LeadsTo ds x b) (sym from) l);
        earlier = λ other k at' less back. found.earlier k less (to-places back k k at' at');
      }

  module _ (ranks : List ℕ) (ok : ArePlaceRanks g ranks) where
    small-by : (name : List ℕ) (o : Option ℕ) → macro_index name ds ≡ o → is_below (option_map (slice_index ranks) o) (length ds) ≡ true
    small-by name None p = refl
    small-by name (Some i) p =
        let here = place-is name ds i p in
        let less = ok.small i (omega (arith, here.within, is.each)) in
        let len = is.each in
        grind (arith, nat_tests)

    below-by : (a b : List ℕ) (i : ℕ) (o : Option ℕ) → macro_index a ds ≡ Some i → macro_index b ds ≡ o → BodyCalls b (macro_body a ds) → is_below (option_map (slice_index ranks) o) (slice_index ranks i) ≡ true
    below-by a b i None p q c = refl
    below-by a b i (Some j) p q c =
        let less = ok.fall i j (edge-to a b i j p q c) in
        grind (arith, nat_tests)

    fall-by : (name : List ℕ) (r : ℕ) (o : Option ℕ) → macro_index name ds ≡ o → option_map (slice_index ranks) o ≡ Some r → body_below (rank_of ranks ds) r (macro_body name ds) ≡ true
    fall-by name r None p h = grind arith
    fall-by name r (Some i) p h =
        let same : slice_index ranks i ≡ r = cc in
        let here = place-is name ds i p in
        rw (here.holds, ← same) (all-below-by (rank_of ranks ds) (slice_index ranks i) (children_at ds i) (λ other c. below-by name other i (macro_index other ds) p refl (holds-call name other i p c)))

    acyclic-by : IsAcyclic ds
    acyclic-by = (
      ranks,
      record {
        each = ok.each ∙ is.each;
        small = λ name. small-by name (macro_index name ds) refl;
        fall = λ name r h. fall-by name r (macro_index name ds) refl h;
      },
    )

  pub acyclic : HasRanks g → IsAcyclic ds
  acyclic (ranks, ok) = acyclic-by ranks ok
