use Rattle.std.proofs.Common.{drop}
use Rattle.csl_entry.specs.Alike.{Each}
use Rattle.csl_elements.specs.declared.variable_set.VariableSet.{VariableSet}
use Rattle.csl_elements.specs.VariableSet.{Has, IsWithin}
use Rattle.csl_render.proofs.variable_set.with_each.Given as goal

-- a set around the set so far that has the remaining variables has all
abbrev pub invariant-loop-variable : goal.invariant-loop-variable
invariant-loop-variable l = record {
  kept : IsWithin l.fn.start l.set;
  has : (s : VariableSet) → IsWithin l.set s → Each (Has s) (drop l.variable-index l.variables) → Each (Has s) l.variables;
}
