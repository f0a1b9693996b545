use Rattle.std.proofs.Common.{ap, ◌==◌}
use Rattle.std.proofs.lemmas.Nat.Bits.{bit_at-zero}
use Rattle.csl_elements.specs.VariableSet.{place, has}
use Rattle.csl_elements.proofs.variable_set.VariableSet.new.Goals as goal

pub returns : goal.returns
unfolding has
returns c v = ap (λ x. x == 1) (bit_at-zero (place v))
