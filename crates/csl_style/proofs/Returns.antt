-- If the macros have ranks, none leads back to itself.
use Rattle.std.proofs.Common.{◌≡◌, ℕ, ◌<◌, List, Option, Some, None, option_map, slice_index, true, nat_lt, refl, sym, ap, ◌∙◌, subst, arith, inl, inr}
use Rattle.std.proofs.lemmas.Bool.{and_parts}
use Rattle.std.proofs.lemmas.Bool.Decides.{nat_tests}
use Rattle.csl_elements.specs.Node.{Node, call, names, choose, group, Nodes, no_nodes, node, Branches, no_branches, otherwise, branch, Substitutes, no_substitutes, substitute}
use Rattle.csl_elements.specs.View.{Definition}
use Rattle.csl_style.specs.Expansion.{macro_body, macro_index, rank_of, is_below, calls_below, all_below, branches_below, substitutes_below, body_below, AreRanks, IsAcyclic}
use Rattle.csl_style.specs.MacroCalls.{Calls, OneCalls, BranchCalls, SubstituteCalls, BodyCalls, LeadsTo, at_once, through}
use Rattle.csl_style.specs.Style.{HasNoCycle}
use Rattle.csl_style.proofs.Meanings.{body-none}

module _ (rank : List ℕ → Option ℕ) (r : ℕ) (name : List ℕ) where
  mutual
    call-below : (n : Node) → Calls name n → calls_below rank r n ≡ true → is_below (rank name) r ≡ true
    call-below (call other d) c h = subst (λ x. is_below (rank x) r ≡ true) (sym c) h
    call-below (names n ss) c h = substitute-below ss c h
    call-below (choose bs) c h = branch-below bs c h
    call-below (group delimiter d ns) c h = one-below ns c h
    call-below other c h = absurd c

    one-below : (ns : Nodes) → OneCalls name ns → all_below rank r ns ≡ true → is_below (rank name) r ≡ true
    one-below no_nodes c h = absurd c
    one-below (node n ns) (inl c) h = call-below n c (and_parts (calls_below rank r n) (all_below rank r ns) h).0
    one-below (node n ns) (inr c) h = one-below ns c (and_parts (calls_below rank r n) (all_below rank r ns) h).1

    branch-below : (bs : Branches) → BranchCalls name bs → branches_below rank r bs ≡ true → is_below (rank name) r ≡ true
    branch-below no_branches c h = absurd c
    branch-below (otherwise ns) c h = one-below ns c h
    branch-below (branch ts ns bs) (inl c) h = one-below ns c (and_parts (all_below rank r ns) (branches_below rank r bs) h).0
    branch-below (branch ts ns bs) (inr c) h = branch-below bs c (and_parts (all_below rank r ns) (branches_below rank r bs) h).1

    substitute-below : (ss : Substitutes) → SubstituteCalls name ss → substitutes_below rank r ss ≡ true → is_below (rank name) r ≡ true
    substitute-below no_substitutes c h = absurd c
    substitute-below (substitute ns ss) (inl c) h = one-below ns c (and_parts (all_below rank r ns) (substitutes_below rank r ss) h).0
    substitute-below (substitute ns ss) (inr c) h = substitute-below ss c (and_parts (all_below rank r ns) (substitutes_below rank r ss) h).1

  called-below : (o : Option Nodes) → BodyCalls name o → body_below rank r o ≡ true → is_below (rank name) r ≡ true
  called-below None c h = absurd c
  called-below (Some ns) c h = one-below ns c h

module _ (ds : List Definition) (ranks : List ℕ) (ok : AreRanks ds ranks) where
  -- a macro that calls something has a rank; each name that it calls is below that rank
  has-rank : (a b : List ℕ) (o : Option ℕ) → macro_index a ds ≡ o → BodyCalls b (macro_body a ds) → (r : ℕ) × (rank_of ranks ds a ≡ Some r)
  has-rank a b None p c = absurd (subst (BodyCalls b) (body-none a ds p) c)
  has-rank a b (Some i) p c = (slice_index ranks i, ap (option_map (slice_index ranks)) p)

  step : (a b : List ℕ) → BodyCalls b (macro_body a ds) → (r : ℕ) × (rank_of ranks ds a ≡ Some r) × (is_below (rank_of ranks ds b) r ≡ true)
  step a b c =
      let (r, e) = has-rank a b (macro_index a ds) refl c in
      (r, e, called-below (rank_of ranks ds) r b (macro_body a ds) c (ok.fall a r e))

  below-some : (o : Option ℕ) (q r : ℕ) → o ≡ Some q → is_below o r ≡ true → q < r
  below-some o q r e h = let k : nat_lt q r ≡ true = sym (ap (λ x. is_below x r) e) ∙ h in grind (arith, nat_tests)

  falls : {a b : List ℕ} → LeadsTo ds a b → (q : ℕ) → rank_of ranks ds b ≡ Some q → (r : ℕ) × (rank_of ranks ds a ≡ Some r) × (q < r)
  falls (at_once {a} {b} c) q e =
      let (r, f, below) = step a b c in
      (r, f, below-some (rank_of ranks ds b) q r e below)
  falls (through {a} {b} c more) q e =
      let (m, g, less) = falls more q e in
      let (r, f, below) = step a b c in
      let less2 = below-some (rank_of ranks ds b) m r g below in
      (r, f, omega arith)

  starts : {a b : List ℕ} → LeadsTo ds a b → (r : ℕ) × (rank_of ranks ds a ≡ Some r)
  starts (at_once {a} {b} c) = has-rank a b (macro_index a ds) refl c
  starts (through {a} {b} c more) = has-rank a b (macro_index a ds) refl c

  returns-never : (a : List ℕ) → LeadsTo ds a a → ⊥
  returns-never a h =
      let (q, e) = starts h in
      let (r, f, less) = falls h q e in
      let same : q ≡ r = cc in
      omega arith

pub none-returns : (ds : List Definition) → IsAcyclic ds → HasNoCycle ds
none-returns ds (ranks, ok) a h = returns-never ds ranks ok a h
