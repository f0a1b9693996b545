use Rattle.csl_elements.specs.VariableSet.{place, has}
use Rattle.csl_elements.proofs.VariableSets.{or_bit}
use Rattle.csl_elements.proofs.variable_set.VariableSet.union.Goals as goal

pub returns : goal.returns
unfolding has
returns c v = or_bit c.args.self.places c.args.other.places (place v)
