-- A text that loses its direction controls has none left.
use Rattle.std.proofs.Common.{◌≡◌, ℕ, Bool, true, false, cond, List, [], ◌∷◌, refl, sym, subst}
use Rattle.std.specs.Prelude.{not, filter}
use Rattle.std.specs.Char.{IsScalar}
use Rattle.std.specs.Str.{NonePass, all_scalars}
use Rattle.std.proofs.lemmas.Bool.{and_parts, and_from}
use Rattle.csl_uses.specs.Page.{is_direction_control}

module _ (p : ℕ → Bool) where
  one_scalar : (b : Bool) (c : ℕ) (cs : List ℕ) → IsScalar c → all_scalars cs ≡ true → all_scalars (cond (not b) (c ∷ cs) cs) ≡ true
  one_scalar true c cs first rest = rest
  one_scalar false c cs first rest = and_from _ _ first rest

  pub scalars_left : (cs : List ℕ) → all_scalars cs ≡ true → all_scalars (filter (λ c. not (p c)) cs) ≡ true
  scalars_left [] are = refl
  scalars_left (c ∷ cs) are = one_scalar (p c) c (filter (λ c. not (p c)) cs) (and_parts _ _ are).0 (scalars_left cs (and_parts _ _ are).1)

  one_passes : (b : Bool) (c : ℕ) (cs : List ℕ) → p c ≡ b → NonePass p cs → NonePass p (cond (not b) (c ∷ cs) cs)
  one_passes true c cs is rest = rest
  one_passes false c cs is rest = (is, rest)

  none_passes : (cs : List ℕ) → NonePass p (filter (λ c. not (p c)) cs)
  none_passes [] = tt
  none_passes (c ∷ cs) = one_passes (p c) c (filter (λ c. not (p c)) cs) refl (none_passes cs)

pub none_left : (cs ds : List ℕ) → ds ≡ filter (λ c. not (is_direction_control c)) cs → NonePass is_direction_control ds
none_left cs ds is = subst (NonePass is_direction_control) (sym is) (none_passes is_direction_control cs)
