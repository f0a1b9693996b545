use Rattle.std.proofs.Common.{drop}
use Rattle.csl_elements.specs.View.{view_branch}
use Rattle.csl_entry.specs.Alike.{Each}
use Rattle.csl_elements.specs.declared.variable_set.VariableSet.{VariableSet}
use Rattle.csl_render.specs.Plan.{HasTested, HasAllTested}
use Rattle.csl_elements.specs.VariableSet.{IsWithin}
use Rattle.csl_render.proofs.choose.tested_variables.Given as goal

-- a set around the set so far that has what the remaining branches test has what all test
abbrev pub invariant-loop-branch : goal.invariant-loop-branch
invariant-loop-branch l = (s : VariableSet) → IsWithin l.set s
    → Each (λ b. HasTested s (view_branch b).tests) (drop l.branch-index l.branch-items) → HasAllTested s l.choose
