-- The invariant of a search, and the steps that keep it.
use Rattle.std.proofs.Common.{◌≡◌, ℕ, zero, suc, ◌<◌, ◌≤◌, ◌+◌, List, [], ◌∷◌, ◌++◌, length, slice_index, set, replicate, Bool, true, false, nat_eq, refl, sym, ap, ◌∙◌, subst, arith, ◌⊎◌, inl, inr, length-set, length-append}
use Rattle.std.proofs.lemmas.Bool.Decides.{nat_tests}
use Rattle.csl_style.specs.Cycles.{Graph, HasEdge, Reaches, along_edge, along_edges, is_marked, IsReach}
use Rattle.std.proofs.lemmas.List.{length-replicate}
use Rattle.csl_style.proofs.Marks.{marks, marks-none, none-marked, marks-set, marked-before, still-marked}
use Rattle.csl_style.proofs.Edges.{reaches-on}

-- The list of found places begins with the place itself and has each marked place. The edges of its
-- first `next` places have been followed.
pub record IsSearch (g : Graph) (from : ℕ) (seen : List Bool) (found : List ℕ) (next : ℕ) : Type 0 where
  pub each : length seen ≡ length g
  pub counted : length found ≡ suc (marks seen)
  pub inside : (k : ℕ) → k < length found → slice_index found k < length g
  pub first : slice_index found 0 ≡ from
  pub led : (k : ℕ) → k < length found → (slice_index found k ≡ from) ⊎ Reaches g from (slice_index found k)
  pub sound : (q : ℕ) → is_marked seen q ≡ true → Reaches g from q
  pub listed : (q : ℕ) → is_marked seen q ≡ true → (k : ℕ) × (k < length found) × (slice_index found k ≡ q)
  pub closed : (k : ℕ) → k < next → (q : ℕ) → HasEdge g (slice_index found k) q → is_marked seen q ≡ true
  pub so_far : next ≤ length found

-- ---- a list that grows by one

at-push : (found : List ℕ) (q k : ℕ) → k < length (found ++ q ∷ []) → ((k < length found) × (slice_index (found ++ q ∷ []) k ≡ slice_index found k)) ⊎ (slice_index (found ++ q ∷ []) k ≡ q)
at-push [] q zero less = inr refl
at-push [] q (suc k) less = absurd (omega arith)
at-push (x ∷ found) q zero less = inl (omega arith, refl)
at-push (x ∷ found) q (suc k) less =
    elim (at-push found q k (omega arith)) [ inl h ↦ inl (let l = h.0 in omega arith, h.1) | inr h ↦ inr h ]

pub before-push : (found : List ℕ) (q k : ℕ) → k < length found → slice_index (found ++ q ∷ []) k ≡ slice_index found k
before-push [] q k less = absurd (omega arith)
before-push (x ∷ found) q zero less = refl
before-push (x ∷ found) q (suc k) less = before-push found q k (omega arith)

pub last-push : (found : List ℕ) (q : ℕ) → slice_index (found ++ q ∷ []) (length found) ≡ q
last-push [] q = refl
last-push (x ∷ found) q = last-push found q

pub unfinished-push : (found : List ℕ) (q next : ℕ) → next < length found → next < length (found ++ q ∷ [])
unfinished-push found q next less = omega (arith, length-append found (q ∷ []))

-- ---- the steps

pub start : (g : Graph) (from : ℕ) → from < length g → IsSearch g from (replicate (length g) false) (from ∷ []) 0
start g from within =
    let never : (q : ℕ) → is_marked (replicate (length g) false) q ≡ true → ⊥ = λ q h. let e = none-marked (length g) q in grind arith in
    record {
      each = length-replicate (length g) false;
      counted = ap suc (sym (marks-none (length g)));
      inside = λ k less. let e : k ≡ 0 = omega arith in rw e within;
      first = refl;
      led = λ k less. let e : k ≡ 0 = omega arith in inl (rw e);
      sound = λ q h. absurd (never q h);
      listed = λ q h. absurd (never q h);
      closed = λ k less q h. absurd (omega arith);
      so_far = omega arith;
    }

module _ {g : Graph} {from : ℕ} {seen : List Bool} {found : List ℕ} {next : ℕ} (s : IsSearch g from seen found next) where
  -- one more place is marked and listed
  module _ (q : ℕ) (unfinished : next < length found) (edge : HasEdge g (slice_index found next) q) (inside : q < length g) (fresh : is_marked seen q ≡ false) where
    reaches-there : Reaches g from q
    reaches-there = elim (s.led next unfinished) [
      | inl e ↦ along_edge (subst (λ a. HasEdge g a q) e edge)
      | inr l ↦ reaches-on l edge
    ]

    pub add : IsSearch g from (set seen q true) (found ++ q ∷ []) next
    add =
        let in_seen : q < length seen = omega (arith, s.each) in
        let longer : length (found ++ q ∷ []) ≡ suc (length found) = length-append found (q ∷ []) ∙ omega arith in
        record {
          each = length-set seen q true ∙ s.each;
          counted = longer ∙ ap suc (s.counted ∙ sym (marks-set seen q in_seen fresh));
          inside = λ k less. elim (at-push found q k less) [ inl h ↦ rw h.1 (s.inside k h.0) | inr h ↦ rw h inside ];
          first = before-push found q 0 (omega arith) ∙ s.first;
          led = λ k less. elim (at-push found q k less) [ inl h ↦ rw h.1 (s.led k h.0) | inr h ↦ inr (rw h reaches-there) ];
          sound = λ p h. elim (marked-before seen q in_seen p h) [ inl e ↦ rw e reaches-there | inr m ↦ s.sound p m ];
          listed = λ p h. elim (marked-before seen q in_seen p h) [
            | inl e ↦ (length found, omega arith, last-push found q ∙ sym e)
            | inr m ↦ let (k, less, is) = s.listed p m in (k, omega arith, before-push found q k less ∙ is)
          ];
          closed = λ k less p h.
              still-marked seen q in_seen p (s.closed k less p (subst (λ a. HasEdge g a p) (before-push found q k (omega arith)) h));
          so_far = omega arith;
        }

  -- all edges of one more place were followed
  pub followed : next < length found → ((q : ℕ) → HasEdge g (slice_index found next) q → is_marked seen q ≡ true) → IsSearch g from seen found (next + 1)
  followed unfinished all = record {
    each = s.each;
    counted = s.counted;
    inside = s.inside;
    first = s.first;
    led = s.led;
    sound = s.sound;
    listed = s.listed;
    closed = λ k less q h. closed-by k q (nat_eq k next) refl less h;
    so_far = omega arith;
  } where
    closed-by : (k q : ℕ) (b : Bool) → nat_eq k next ≡ b → k < next + 1 → HasEdge g (slice_index found k) q → is_marked seen q ≡ true
    closed-by k q true e less h =
        let same : k ≡ next = grind (arith, nat_tests) in
        all q (subst (λ j. HasEdge g (slice_index found j) q) same h)
    closed-by k q false e less h = s.closed k (grind (arith, nat_tests)) q h

  -- the edges of all listed places were followed
  module _ (finished : length found ≤ next) where
    reached : {a b : ℕ} → Reaches g a b → (k : ℕ) → k < length found → slice_index found k ≡ a → is_marked seen b ≡ true
    reached (along_edge {a} {b} h) k less is = s.closed k (omega arith) b (subst (λ x. HasEdge g x b) (sym is) h)
    reached (along_edges {a} {b} h l) k less is =
        let (j, within, here) = s.listed b (s.closed k (omega arith) b (subst (λ x. HasEdge g x b) (sym is) h)) in
        reached l j within here

    pub done : IsReach g from seen
    done = record {
      each = s.each;
      sound = s.sound;
      complete = λ q l. reached l 0 (omega (arith, s.counted)) s.first;
    }
