-- The first cite of each work, when one more cite is noted.
use Rattle.std.proofs.Common.{◌≡◌, ◌<◌, ◌⊎◌, ◌||◌, ◌==◌, ℕ, zero, suc, Bool, true, false, List, Option, None, is_some, get_or, set, take, length, replicate, refl, sym, ap, inl, inr, ◌+◌, ◌∙◌, get_or-set_same, get_or-set_other, eq-eqb, ne_eqb}
use Rattle.std.proofs.lemmas.Bool.{cases_eq, or_right}
use Rattle.std.proofs.lemmas.List.Folds.{list_any_more}
use Rattle.csl_list.specs.Listed.{is_cited}

abbrev no_cite : Option ℕ
no_cite = None

none_in : (works work : ℕ) → is_some (get_or (replicate works no_cite) work no_cite) ≡ false
none_in zero work = refl
none_in (suc works) zero = refl
none_in (suc works) (suc work) = none_in works work

pub none_noted : (firsts : List (Option ℕ)) (works : ℕ) → firsts ≡ replicate works None → (work : ℕ) → is_some (get_or firsts work None) ≡ false
none_noted firsts works e work = ap (λ fs. is_some (get_or fs work None)) e ∙ none_in works work

module _ (firsts : List (Option ℕ)) (cited : List ℕ) (place k : ℕ) (first : Option ℕ) (is : is_some first ≡ true) (within : k < length firsts) (there : place < length cited) (at : k ≡ get_or cited place 0)
    (h : (work : ℕ) → is_some (get_or firsts work None) ≡ is_cited (take place cited) work) where
  more : (work : ℕ) → is_cited (take (place + 1) cited) work ≡ (is_cited (take place cited) work || (k == work))
  more work = list_any_more (λ w. w == work) cited place 0 there ∙ ap (λ w. is_cited (take place cited) work || (w == work)) (sym at)

  by_cases : (work : ℕ) → (work ≡ k) ⊎ (work ≡ k → ⊥) → is_some (get_or (set firsts k first) work None) ≡ is_cited (take (place + 1) cited) work
  by_cases work (inl same) =
      ap (λ w. is_some (get_or (set firsts k first) w None)) same
      ∙ ap is_some (get_or-set_same firsts k first None within)
      ∙ is
      ∙ sym (more work ∙ or_right (is_cited (take place cited) work) (k == work) (eq-eqb k work (sym same)))
  by_cases work (inr other) =
      ap is_some (get_or-set_other firsts k work first None other)
      ∙ h work
      ∙ sym (more work ∙ ap (λ b. is_cited (take place cited) work || b) (ne_eqb k work (λ same. other (sym same))) ∙ or_false (is_cited (take place cited) work))
    where
      or_false : (b : Bool) → (b || false) ≡ b
      or_false true = refl
      or_false false = refl

  pub noted : (work : ℕ) → is_some (get_or (set firsts k first) work None) ≡ is_cited (take (place + 1) cited) work
  noted work = by_cases work (cases_eq work k)
