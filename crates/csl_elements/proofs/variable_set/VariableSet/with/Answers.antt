use Rattle.std.proofs.Common.{◌==◌, ◌*◌, ◌^◌, ◌%◌, bit_or, ap, ◌∙◌}
use Rattle.std.specs.Int.{bit_at}
use Rattle.csl_elements.specs.VariableSet.{place, has, with_variable}
use Rattle.csl_elements.proofs.VariableSets.{bit_with}
use Rattle.csl_elements.proofs.variable_set.VariableSet.with.Goals as goal

pub returns : goal.returns
unfolding has with_variable
returns c =
    let bits = c.args.self.places in
    let u = c.args.variable in
    λ i v. (ap (λ at. bit_at (bit_or bits (1 * 2 ^ at % 340282366920938463463374607431768211456)) (place v) == 1) c.place.ensures.value ∙ bit_with bits u v) i
