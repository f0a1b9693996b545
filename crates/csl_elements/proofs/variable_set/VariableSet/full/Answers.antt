use Rattle.std.proofs.Common.{arith, eq-eqb}
use Rattle.std.specs.Int.{bit_at}
use Rattle.std.proofs.lemmas.Nat.Bits.{bit_at_ones}
use Rattle.csl_elements.specs.VariableSet.{place, has}
use Rattle.csl_elements.proofs.VariableSets.{place_bound}
use Rattle.csl_elements.proofs.variable_set.VariableSet.full.Goals as goal

pub returns : goal.returns
unfolding has
returns c v = eq-eqb (bit_at 340282366920938463463374607431768211455 (place v)) 1 (bit_at_ones 128 (place v) (omega (arith, place_bound v)))
