use Rattle.std.proofs.Common.{◌≡◌, drop}
use Rattle.csl_elements.specs.VariableSet.{has, members_of, with_held}
use Rattle.csl_elements.proofs.variable_set.VariableSet.insert_all_into.Given as goal

-- the ordered set so far, with those of the remaining variables that the set has, has all
abbrev pub invariant-loop-variable : goal.invariant-loop-variable
invariant-loop-variable l = with_held (has l.self) (drop l.variable-index l.variables) (members_of l.ordered) ≡ with_held (has l.self) l.variables (members_of l.fn.ordered)
