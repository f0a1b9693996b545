use Rattle.std.proofs.Common.{get_or}
use Rattle.csl_elements.specs.declared.taxonomy.StandardVariable.TheVariants.{Abstract}
use Rattle.csl_elements.specs.declared.taxonomy.Variable.TheVariants as variable
use Rattle.csl_elements.specs.VariableSet.{Has}
use Rattle.csl_render.proofs.VariableSets.{each_from, each_after, has_more, more_within}
use Rattle.csl_render.proofs.variable_set.with_each.Goals as goal

pub loop-variable-preserved : goal.loop-variable-preserved
loop-variable-preserved c = record {
  kept = λ v h. more_within c.loop-variable.set c.with-set.result (get_or c.args.variables.now c.loop-variable.variable-index (variable.Standard Abstract)) c.with-set.ensures v (c.loop-variable.invariant.kept v h);
  has = λ s within rest. c.loop-variable.invariant.has s (λ v h. within v (more_within c.loop-variable.set c.with-set.result (get_or c.args.variables.now c.loop-variable.variable-index (variable.Standard Abstract)) c.with-set.ensures v h)) (each_from (Has s) c.args.variables.now c.loop-variable.variable-index (variable.Standard Abstract) c.loop-variable-test.true (within (get_or c.args.variables.now c.loop-variable.variable-index (variable.Standard Abstract)) (has_more c.loop-variable.set c.with-set.result (get_or c.args.variables.now c.loop-variable.variable-index (variable.Standard Abstract)) c.with-set.ensures)) rest);
}

pub returns-clause-has : goal.returns-clause-has
returns-clause-has c = c.loop-variable.invariant.has c.loop-variable.set (λ v h. h) (each_after (Has c.loop-variable.set) c.args.variables.now c.loop-variable.variable-index c.loop-variable-test.false)
