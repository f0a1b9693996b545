-- The outcomes of a branch's tests, sort by sort, and what they make of its match.
use Rattle.std.proofs.Common.{◌≡◌, ℕ, ◌+◌, ◌<◌, Bool, true, false, not, ◌||◌, List, [], ◌∷◌, ◌++◌, drop, get_or, length, map, refl, sym, ap, ◌∙◌}
use Rattle.std.specs.Bool.{beq}
use Rattle.std.specs.List.{list_all, list_any}
use Rattle.std.proofs.lemmas.List.{at_drop_more}
use Rattle.std.proofs.lemmas.List.Folds.{list_any-append}
use Rattle.csl_elements.specs.declared.element.ChooseBranch.{ChooseBranch, out-ChooseBranch}
use Rattle.csl_elements.specs.declared.element.ChooseMatch.{ChooseMatch}
use Rattle.csl_elements.specs.declared.element.ChooseMatch.TheVariants as matched
use Rattle.csl_elements.specs.Node.{Tests}
use Rattle.csl_elements.specs.View.{view_branch}
use Rattle.csl_context.specs.State.{State}
use Rattle.csl_context.specs.RenderInput.{RenderInput}
use Rattle.csl_nodes.specs.Condition.{conditions_at, conditions, of_numbers, of_dates, of_locators, of_positions, of_kinds, has_outcome, satisfies, branch_matches}
use Rattle.csl_nodes.specs.BranchConditions.{tests_of}
use Rattle.csl_nodes.specs.declared.branch_conditions.BranchConditionPos.TheVariants as arm
use Rattle.csl_nodes.proofs.Readings.{tests_out}

-- ---- from a place of a list of tests on

module _ {A : Type 0} (test : A → Bool) (o : Bool) (xs : List A) (i : ℕ) (d : A) (b : Bool) (within : i < length xs) (read : b ≡ test (get_or xs i d)) where
  here_or_behind : has_outcome o (map test (drop i xs)) ≡ (beq b o || has_outcome o (map test (drop (i + 1) xs)))
  here_or_behind = at_drop_more (λ l. has_outcome o (map test l)) xs i d within ∙ ap (λ c. beq c o || has_outcome o (map test (drop (i + 1) xs))) (sym read)

  pub outcome_at : beq b o ≡ true → has_outcome o (map test (drop i xs)) ≡ true
  outcome_at e = here_or_behind ∙ ap (λ c. c || has_outcome o (map test (drop (i + 1) xs))) e

  pub no_outcome_at : beq b o ≡ false → has_outcome o (map test (drop i xs)) ≡ has_outcome o (map test (drop (i + 1) xs))
  no_outcome_at e = here_or_behind ∙ ap (λ c. c || has_outcome o (map test (drop (i + 1) xs))) e

-- ---- sort by sort

either_outcome : (o : Bool) (xs ys : List Bool) (b : Bool) → has_outcome o ys ≡ b → has_outcome o (xs ++ ys) ≡ (has_outcome o xs || b)
either_outcome o xs ys b e = list_any-append (λ x. beq x o) xs ys ∙ ap (λ c. has_outcome o xs || c) e

module _ (w : RenderInput) (s : State) (ts : Tests) (o : Bool) where
  abbrev here : List Bool → Bool
  here bs = has_outcome o bs

  pub outcomes_are : has_outcome o (conditions w s ts) ≡ (here (conditions_at w s ts arm.Disambiguate) || (here (conditions_at w s ts arm.IsNumeric) || (here (conditions_at w s ts arm.IsUncertainDate) || (here (conditions_at w s ts arm.Locator) || (here (conditions_at w s ts arm.Position) || (here (conditions_at w s ts arm.Type_) || here (conditions_at w s ts arm.Variable)))))))
  outcomes_are =
      either_outcome o (conditions_at w s ts arm.Disambiguate) (of_numbers w s ts) _ (
      either_outcome o (conditions_at w s ts arm.IsNumeric) (of_dates w s ts) _ (
      either_outcome o (conditions_at w s ts arm.IsUncertainDate) (of_locators w s ts) _ (
      either_outcome o (conditions_at w s ts arm.Locator) (of_positions w s ts) _ (
      either_outcome o (conditions_at w s ts arm.Position) (of_kinds w s ts) _ (
      either_outcome o (conditions_at w s ts arm.Type_) (conditions_at w s ts arm.Variable) _ refl)))))

all_unless_false : (bs : List Bool) → list_all (λ b. b) bs ≡ not (has_outcome false bs)
all_unless_false [] = refl
all_unless_false (true ∷ bs) = all_unless_false bs
all_unless_false (false ∷ bs) = refl

any_if_true : (bs : List Bool) → list_any (λ b. b) bs ≡ has_outcome true bs
any_if_true [] = refl
any_if_true (true ∷ bs) = refl
any_if_true (false ∷ bs) = any_if_true bs

-- what a match makes of the outcomes that tests have
abbrev decided : ChooseMatch → (Bool → Bool) → Bool
decided matched.All has = not (has false)
decided matched.Any has = has true
decided matched.None has = not (has true)

decides : (m : ChooseMatch) (bs : List Bool) → satisfies m bs ≡ decided m (λ o. has_outcome o bs)
decides matched.All bs = all_unless_false bs
decides matched.Any bs = any_if_true bs
decides matched.None bs = ap not (any_if_true bs)

-- a branch is taken by its match and the outcomes that its tests have
pub matches_are : (w : RenderInput) (s : State) (b : ChooseBranch) → branch_matches w s (view_branch b).tests ≡ decided (out-ChooseBranch b).match_ (λ o. has_outcome o (conditions w s (tests_of b)))
unfolding branch_matches
matches_are w s b = ap (branch_matches w s) (sym (tests_out b)) ∙ decides (out-ChooseBranch b).match_ (conditions w s (tests_of b))
