-- Sets of variables around others, and lists whose variables are in a set.
use Rattle.std.proofs.Common.{◌≡◌, ℕ, ◌+◌, ◌<◌, ◌≤◌, Bool, drop, get_or, length, List, [], ◌∷◌, refl, ap, subst, sym, ◌∙◌}
use Rattle.std.specs.Prelude.{◌||◌}
use Rattle.std.proofs.lemmas.List.{at_drop_more, at_drop_all}
use Rattle.csl_elements.specs.contracts.taxonomy.VariablePartialEq.TheImpl.{eq-value as eq_variable}
use Rattle.csl_elements.specs.declared.element.ChooseBranch.{ChooseBranch}
use Rattle.csl_elements.specs.declared.element.LayoutRenderingElement.TheFolds.{fold_out-ChooseBranch}
use Rattle.csl_elements.specs.declared.taxonomy.Variable.{Variable}
use Rattle.csl_elements.specs.declared.taxonomy.Variable.TheVariants as variable
use Rattle.csl_elements.specs.Node.{Tests, Node, Nodes}
use Rattle.csl_elements.proofs.Sets.{or_left, or_right}
use Rattle.csl_elements.proofs.Variables.{variable_decides}
use Rattle.csl_elements.specs.View.{NamesChildView, BranchView, view_branch, element_step, child_step, choose_step, branch_step, group_step, names_step, substitute_step}
use Rattle.csl_entry.specs.Alike.{Each}
use Rattle.csl_nodes.specs.BranchConditions.{tests_of}
use Rattle.csl_elements.specs.declared.variable_set.VariableSet.{VariableSet}
use Rattle.csl_render.specs.Plan.{HasTested}
use Rattle.csl_elements.specs.VariableSet.{has, Has, IsWithin, with_variable}

-- the union of two sets has each variable of both
module _ (a b both : VariableSet) (is : (v : Variable) → has both v ≡ (has a v || has b v)) where
  pub left_within : IsWithin a both
  left_within v h = is v ∙ or_left (has a v) (has b v) h

  pub right_within : IsWithin b both
  right_within v h = is v ∙ or_right (has a v) (has b v) h

-- the set with one more variable has it, and each variable of the set
module _ (a more : VariableSet) (u : Variable) (is : has more ≡ with_variable u (has a)) where
  pub has_more : Has more u
  unfolding with_variable
  has_more = ap (λ (one : Variable → Bool). one u) is ∙ or_left (eq_variable.it u u) (has a u) ((variable_decides u u).1 refl)

  pub more_within : IsWithin a more
  unfolding with_variable
  more_within v h = ap (λ (one : Variable → Bool). one v) is ∙ or_right (eq_variable.it v u) (has a v) h

-- ---- from a place of a list on

module _ {A : Type 0} (P : A → Type 0) (xs : List A) (i : ℕ) where
  -- what holds of the item at the place and of those after it
  pub each_from : (d : A) → i < length xs → P (get_or xs i d) → Each P (drop (i + 1) xs) → Each P (drop i xs)
  each_from d within h hs = subst (Each P) (sym (at_drop_more (λ l. l) xs i d within)) (h, hs)

  -- what holds of none
  pub each_after : length xs ≤ i → Each P (drop i xs)
  each_after beyond = subst (Each P) (sym (at_drop_all (λ l. l) xs i beyond)) tt

pub each_of : {A : Type 0} (P : A → Type 0) → ((x : A) → P x) → (xs : List A) → Each P xs
each_of P h [] = tt
each_of P h (x ∷ xs) = (h x, each_of P h xs)

-- ---- a set around another

module _ (a b : VariableSet) (within : IsWithin a b) where
  pub each_within : {A : Type 0} (f : A → Variable) (xs : List A) → Each (λ x. Has a (f x)) xs → Each (λ x. Has b (f x)) xs
  each_within f [] h = tt
  each_within f (x ∷ xs) h = (within (f x) h.0, each_within f xs h.1)

  pub tested_within : (ts : Tests) → HasTested a ts → HasTested b ts
  tested_within ts h = (each_within (λ v. v) _ h.0, each_within variable.Date _ h.1, each_within (λ v. v) _ h.2)

-- the tests of a branch as data
pub tests_out : (b : ChooseBranch) → tests_of b ≡ (view_branch b).tests
tests_out b = rw (fold_out-ChooseBranch Node NamesChildView Node BranchView Node Node Nodes element_step child_step choose_step branch_step group_step names_step substitute_step b) refl
