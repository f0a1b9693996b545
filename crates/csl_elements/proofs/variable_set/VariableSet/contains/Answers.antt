use Rattle.std.proofs.Common.{ap, ◌∙◌, ◌==◌}
use Rattle.std.proofs.lemmas.Nat.Bits.{shr_and_one}
use Rattle.std.specs.Int.{bit_at}
use Rattle.csl_elements.specs.VariableSet.{has}
use Rattle.csl_elements.proofs.variable_set.VariableSet.contains.Goals as goal

pub returns : goal.returns
unfolding has
returns c =
    let bits = c.args.self.places in
    ap (λ x. x == 1) (shr_and_one bits c.place.result) ∙ ap (λ at. bit_at bits at == 1) c.place.ensures.value
