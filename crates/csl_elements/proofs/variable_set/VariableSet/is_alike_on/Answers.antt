use Rattle.std.proofs.Common.{eq-eqb, eqb-true}
use Rattle.csl_elements.proofs.VariableSets.{Differ, alike_if, none_if}
use Rattle.csl_elements.proofs.variable_set.VariableSet.is_alike_on.Goals as goal

pub returns : goal.returns
returns c =
    let a = c.args.self in
    let read = c.args.read in
    let b = c.args.other in
    let differ = Differ a.places b.places read.places in
    (λ h. alike_if read a b (eqb-true differ 0 h), λ h. eq-eqb differ 0 (none_if read a b h))
