-- Whether a list has a person, by its length.
use Rattle.std.proofs.Common.{◌≡◌, ℕ, suc, false, List, [], ◌∷◌, length, refl, ap, arith}
use Rattle.std.proofs.lemmas.Grind.{common_steps}
use Rattle.std.specs.Prelude.{◌==◌, not}
use Rattle.lit_model.specs.Person.{PersonView}
use Rattle.csl_names.specs.NamesLists.{has_none}

nonzero : (n : ℕ) → (suc n == 0) ≡ false
nonzero n = grind (arith, common_steps)

pub none_by_length : (ps : List PersonView) → not (length ps == 0) ≡ not (has_none ps)
none_by_length [] = refl
none_by_length (p ∷ ps) = ap not (nonzero (length ps))
