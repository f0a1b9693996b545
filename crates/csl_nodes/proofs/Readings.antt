-- The conditions from a place on: one is read there, or their sort ends there.
use Rattle.std.proofs.Common.{◌≡◌, ℕ, ◌+◌, ◌<◌, suc, zero, Bool, List, [], ◌∷◌, ◌++◌, drop, length, Some, None, slice_get, refl, sym, ap, ◌∙◌, subst, arith, append-nil}
use Rattle.csl_elements.specs.declared.element.ChooseBranch.{ChooseBranch}
use Rattle.csl_elements.specs.declared.element.LayoutRenderingElement.TheFolds.{fold_out-ChooseBranch}
use Rattle.csl_elements.specs.Node.{Node, Nodes, Tests}
use Rattle.csl_elements.specs.View.{view_branch, NamesChildView, BranchView, element_step, child_step, choose_step, branch_step, group_step, names_step, substitute_step}
use Rattle.csl_context.specs.State.{State}
use Rattle.csl_context.specs.RenderInput.{RenderInput}
use Rattle.csl_nodes.specs.Condition.{conditions_at, conditions}
use Rattle.csl_nodes.specs.BranchConditions.{next_arm, arms_from, later_conditions, conditions_from, tests_of}
use Rattle.csl_nodes.specs.declared.branch_conditions.BranchConditionPos.{BranchConditionPos}
use Rattle.csl_nodes.specs.declared.branch_conditions.BranchConditionPos.TheVariants as arm

drop_here : {A : Type 0} (xs : List A) (i : ℕ) (x : A) → slice_get xs i ≡ Some x → drop i xs ≡ x ∷ drop (i + 1) xs
drop_here [] i x e = cc
drop_here (y ∷ ys) zero x e = let same : y ≡ x = cc in ap (λ z. z ∷ ys) same
drop_here (y ∷ ys) (suc i) x e =
    let one : suc (i + 1) ≡ suc i + 1 = omega arith in
    drop_here ys i x e ∙ ap (λ k. x ∷ drop k (y ∷ ys)) one

drop_out : {A : Type 0} (xs : List A) (i : ℕ) → slice_get xs i ≡ None → drop i xs ≡ []
drop_out [] zero e = refl
drop_out [] (suc i) e = refl
drop_out (y ∷ ys) zero e = cc
drop_out (y ∷ ys) (suc i) e = drop_out ys i e

module _ (w : RenderInput) (s : State) (ts : Tests) where
  pub read_here : (p : BranchConditionPos) (i : ℕ) (b : Bool) → slice_get (conditions_at w s ts p) i ≡ Some b → conditions_from w s ts p i ≡ b ∷ conditions_from w s ts p (i + 1)
  read_here p i b e = ap (λ l. l ++ later_conditions w s ts p) (drop_here (conditions_at w s ts p) i b e)

  -- the conditions after one sort are those from the next sort on
  behind_is : (p q : BranchConditionPos) → later_conditions w s ts p ≡ conditions_from w s ts q 0 → (r : BranchConditionPos) → Some q ≡ Some r → later_conditions w s ts p ≡ conditions_from w s ts r 0
  behind_is p q is r e = let same : q ≡ r = cc in subst (λ x. later_conditions w s ts p ≡ conditions_from w s ts x 0) same is

  behind_from : (p r : BranchConditionPos) → next_arm p ≡ Some r → later_conditions w s ts p ≡ conditions_from w s ts r 0
  behind_from arm.Disambiguate r e = behind_is arm.Disambiguate arm.IsNumeric refl r e
  behind_from arm.IsNumeric r e = behind_is arm.IsNumeric arm.IsUncertainDate refl r e
  behind_from arm.IsUncertainDate r e = behind_is arm.IsUncertainDate arm.Locator refl r e
  behind_from arm.Locator r e = behind_is arm.Locator arm.Position refl r e
  behind_from arm.Position r e = behind_is arm.Position arm.Type_ refl r e
  behind_from arm.Type_ r e = behind_is arm.Type_ arm.Variable (sym (append-nil (conditions_at w s ts arm.Variable))) r e
  behind_from arm.Variable r e = cc

  pub read_on : (p r : BranchConditionPos) (i : ℕ) → slice_get (conditions_at w s ts p) i ≡ None → next_arm p ≡ Some r → conditions_from w s ts p i ≡ conditions_from w s ts r 0
  read_on p r i e h = ap (λ l. l ++ later_conditions w s ts p) (drop_out (conditions_at w s ts p) i e) ∙ behind_from p r h

  pub read_out : (p : BranchConditionPos) (i : ℕ) → slice_get (conditions_at w s ts p) i ≡ None → next_arm p ≡ None → conditions_from w s ts p i ≡ []
  read_out arm.Disambiguate i e h = cc
  read_out arm.IsNumeric i e h = cc
  read_out arm.IsUncertainDate i e h = cc
  read_out arm.Locator i e h = cc
  read_out arm.Position i e h = cc
  read_out arm.Type_ i e h = cc
  read_out arm.Variable i e h = ap (λ l. l ++ []) (drop_out (conditions_at w s ts arm.Variable) i e)

falls_to : (p q : BranchConditionPos) → length (arms_from q) < length (arms_from p) → (r : BranchConditionPos) → Some q ≡ Some r → length (arms_from r) < length (arms_from p)
falls_to p q less r e = let same : q ≡ r = cc in subst (λ x. length (arms_from x) < length (arms_from p)) same less

pub arms_fall : (p r : BranchConditionPos) → next_arm p ≡ Some r → length (arms_from r) < length (arms_from p)
arms_fall arm.Disambiguate r e = falls_to arm.Disambiguate arm.IsNumeric (omega arith) r e
arms_fall arm.IsNumeric r e = falls_to arm.IsNumeric arm.IsUncertainDate (omega arith) r e
arms_fall arm.IsUncertainDate r e = falls_to arm.IsUncertainDate arm.Locator (omega arith) r e
arms_fall arm.Locator r e = falls_to arm.Locator arm.Position (omega arith) r e
arms_fall arm.Position r e = falls_to arm.Position arm.Type_ (omega arith) r e
arms_fall arm.Type_ r e = falls_to arm.Type_ arm.Variable (omega arith) r e
arms_fall arm.Variable r e = cc

pub tests_out : (b : ChooseBranch) → tests_of b ≡ (view_branch b).tests
tests_out b = rw (fold_out-ChooseBranch Node NamesChildView Node BranchView Node Node Nodes element_step child_step choose_step branch_step group_step names_step substitute_step b) refl

-- before the first read, all conditions of a branch remain
pub all_left : (w : RenderInput) (s : State) (b : ChooseBranch) → conditions_from w s (tests_of b) arm.Disambiguate 0 ≡ conditions w s (view_branch b).tests
all_left w s b = ap (conditions w s) (tests_out b)

-- for the iterator's next condition
pub ruleset reading_laws = (read_here, read_on, read_out, arms_fall)
