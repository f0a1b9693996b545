-- `==` of numbers compares their values.
use Rattle.std.proofs.Common.{◌≡◌, refl, ap, rules}
use Rattle.std.specs.Bool.{Decides}
use Rattle.std.proofs.lemmas.Slice.Eq.{slice_eq-Decides}
use Rattle.lit_model.specs.Numeric.{several, value_view}
use Rattle.lit_model.specs.declared.numeric.NumericValue.{NumericValue}
use Rattle.lit_model.specs.declared.numeric.NumericValue.TheVariants.{Number, Set}
use Rattle.lit_model.specs.contracts.numeric.NumericValuePartialEq.TheImpl.{eq-value}

pub value_decides : (a b : NumericValue) → Decides (eq-value.it a b) (value_view a ≡ value_view b)
value_decides (Number m) (Number n) = search rules
value_decides (Number m) (Set w) = search rules
value_decides (Set v) (Number n) = search rules
value_decides (Set v) (Set w) =
    let d : Decides (eq-value.it (Set v) (Set w)) (v.items ≡ w.items) = slice_eq-Decides (λ a b. search rules) v.items w.items _ refl in
    (λ h. ap several (d.0 h), λ h. d.1 cc)
