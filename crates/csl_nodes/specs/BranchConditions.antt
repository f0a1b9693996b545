-- The conditions of a branch that an iterator has not read yet, and one step of the iterator: the
-- next condition, or an error, after which no condition remains.
-- Only contracts of private functions cite `next_arm` and `ReadsAt`.
use Rattle.std.specs.Prelude.{◌≡◌, ℕ, Bool, false, List, [], ◌∷◌, ◌++◌, drop, Option, Some, None, option_map, Result, MatchOption, MatchResult, if◌then◌else◌}
use Rattle.csl_elements.specs.Node.{Tests}
use Rattle.csl_elements.specs.declared.element.ChooseBranch.{ChooseBranch, out-ChooseBranch}
use Rattle.csl_entry.specs.Answers.{Answers}
use Rattle.csl_context.specs.State.{State}
use Rattle.csl_context.specs.RenderInput.{RenderInput}
use Rattle.csl_context.specs.Context.{ContextView, FailsSilently, render_input}
use Rattle.csl_context.specs.declared.error.RenderError.{RenderError}
use Rattle.csl_nodes.specs.Condition.{conditions_at, of_numbers, of_dates, of_locators, of_positions, of_kinds}
use Rattle.csl_nodes.specs.declared.branch_conditions.BranchConditionPos.{BranchConditionPos}
use Rattle.csl_nodes.specs.declared.branch_conditions.BranchConditionPos.TheVariants as arm
use Rattle.csl_nodes.specs.declared.branch_conditions.BranchConditionIter.{BranchConditionIter}

-- ---- the sorts of tests

-- the sort of tests after one
abbrev pub next_arm : BranchConditionPos → Option BranchConditionPos
next_arm arm.Disambiguate = Some arm.IsNumeric
next_arm arm.IsNumeric = Some arm.IsUncertainDate
next_arm arm.IsUncertainDate = Some arm.Locator
next_arm arm.Locator = Some arm.Position
next_arm arm.Position = Some arm.Type_
next_arm arm.Type_ = Some arm.Variable
next_arm arm.Variable = None

-- all sorts but the last
abbrev all_but_last : List BranchConditionPos
all_but_last = arm.Disambiguate ∷ arm.IsNumeric ∷ arm.IsUncertainDate ∷ arm.Locator ∷ arm.Position ∷ arm.Type_ ∷ []

abbrev arm_index : BranchConditionPos → ℕ
arm_index arm.Disambiguate = 0
arm_index arm.IsNumeric = 1
arm_index arm.IsUncertainDate = 2
arm_index arm.Locator = 3
arm_index arm.Position = 4
arm_index arm.Type_ = 5
arm_index arm.Variable = 6

-- the sorts of tests from one on, without the last
abbrev pub arms_from : BranchConditionPos → List BranchConditionPos
arms_from p = drop (arm_index p) all_but_last

-- ---- the remaining conditions from a place on: of its sort, and of all later sorts

abbrev pub later_conditions : RenderInput → State → Tests → BranchConditionPos → List Bool
later_conditions w s ts arm.Disambiguate = of_numbers w s ts
later_conditions w s ts arm.IsNumeric = of_dates w s ts
later_conditions w s ts arm.IsUncertainDate = of_locators w s ts
later_conditions w s ts arm.Locator = of_positions w s ts
later_conditions w s ts arm.Position = of_kinds w s ts
later_conditions w s ts arm.Type_ = conditions_at w s ts arm.Variable
later_conditions w s ts arm.Variable = []

abbrev pub conditions_from : RenderInput → State → Tests → BranchConditionPos → ℕ → List Bool
conditions_from w s ts p i = drop i (conditions_at w s ts p) ++ later_conditions w s ts p

-- ---- readings

-- the tests of a branch, as data
abbrev pub tests_of : ChooseBranch → Tests
tests_of b = let branch = out-ChooseBranch b in record {
  disambiguate = branch.disambiguate;
  is_numeric = option_map (λ v. v.items) branch.is_numeric;
  is_uncertain_date = option_map (λ v. v.items) branch.is_uncertain_date;
  locator = option_map (λ v. v.items) branch.locator;
  position = option_map (λ v. v.items) branch.position;
  type_ = option_map (λ v. v.items) branch.type_;
  variable = option_map (λ v. v.items) branch.variable;
  match_ = branch.match_;
}

-- the context in which the conditions are read
abbrev pub context_of : {T : Type 0} → BranchConditionIter T → ContextView T
context_of it = it.ctx.now

-- the conditions that remain to be read: none after an error
abbrev pub remaining_conditions : {T : Type 0} → (T → Answers) → BranchConditionIter T → List Bool
remaining_conditions answers it =
    if it.ended then []
    else conditions_from (render_input answers (context_of it)) (context_of it).state (tests_of it.branch.now) it.pos it.index

-- the result of reading a place: nothing if it has no test, else the test's boolean or an error
abbrev pub ReadsAt : {T : Type 0} → ContextView T → Option Bool → Option (Result Bool RenderError) → Type 0
ReadsAt now None r = r ≡ None
ReadsAt now (Some b) r = MatchOption r ⊥ (λ x. MatchResult x (λ c. (now.failed ≡ false) × (c ≡ b)) (λ e. FailsSilently e now))

-- One step returns the first remaining condition, or an error, after which no condition remains. If
-- none remains, it returns `None`, now and later.
abbrev pub ReadsNext : {T : Type 0} → (T → Answers) → BranchConditionIter T → Option (Result Bool RenderError) → BranchConditionIter T → Type 0
ReadsNext answers s r t =
    (context_of t ≡ context_of s) × MatchOption r ((remaining_conditions answers s ≡ []) × (remaining_conditions answers t ≡ []))
    (λ x. MatchResult x
    (λ b. ((context_of s).failed ≡ false) × (remaining_conditions answers s ≡ b ∷ remaining_conditions answers t))
    (λ e. FailsSilently e (context_of s) × (remaining_conditions answers t ≡ [])))
