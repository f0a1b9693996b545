use Rattle.std.proofs.Common.{◌≡◌, ◌∷◌, ◌||◌, ap, sym, ◌∙◌, rules}
use Rattle.std.specs.BTreeMap.{is_at}
use Rattle.std.specs.List.{list_any}
use Rattle.csl_elements.specs.contracts.taxonomy.VariableOrd.TheImpl.{cmp-value as cmp_variable}
use Rattle.csl_elements.specs.VariableSet.{has}
use Rattle.csl_elements.proofs.VariableSets.{moved_in}
use Rattle.csl_elements.proofs.variable_set.VariableSet.of.Goals as goal

pub loop-variable-preserved : goal.loop-variable-preserved
loop-variable-preserved c v =
    let x = c.in-Some.variable.now in
    let set = c.loop-variable.set in
    let at = is_at (cmp_variable.it v) in
    let step : c.loop-variable.variable-iterator ≡ x ∷ c.next.new.self = search rules in
    moved_in set c.with-set.result x v c.with-set.ensures (list_any at c.next.new.self)
    ∙ ap (λ ks. has set v || list_any at ks) (sym step)
    ∙ c.loop-variable.invariant v
