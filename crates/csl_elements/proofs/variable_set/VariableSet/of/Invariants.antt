use Rattle.std.specs.Prelude.{◌≡◌, ◌||◌}
use Rattle.std.specs.BTreeMap.{is_at}
use Rattle.std.specs.List.{list_any}
use Rattle.csl_elements.specs.contracts.taxonomy.VariableOrd.TheImpl.{cmp-value as cmp_variable}
use Rattle.csl_elements.specs.declared.taxonomy.Variable.{Variable}
use Rattle.csl_elements.specs.VariableSet.{has}
use Rattle.csl_elements.proofs.variable_set.VariableSet.of.Given as goal

-- the ordered set has the variables of the set so far and the remaining ones
abbrev pub invariant-loop-variable : goal.invariant-loop-variable
invariant-loop-variable l = (v : Variable) → (has l.set v || list_any (is_at (cmp_variable.it v)) l.variable-iterator) ≡ list_any (is_at (cmp_variable.it v)) l.variables.keys
