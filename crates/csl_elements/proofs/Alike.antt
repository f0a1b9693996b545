-- A derived comparison of two values of an enum, such as `==` or `cmp`, returns its result for
-- equality exactly if the values are equal.
use Rattle.std.proofs.Common.{◌≡◌, ◌↔◌, ℕ, zero, suc, List, [], ◌∷◌, inl, inr, refl, ap}
use denote.Struct.Field.{Field}
use denote.Struct.Values.{Values}
use denote.Enum.Declared.{Choice, Record, values_one, left_or, right_or}
use denote.Enum.Compared.{Each, by}

module _ {A : Type 0} (r before after : A) where
  -- the comparison of each variant returns r exactly if its two values are equal
  abbrev pub EachTells : (Fss : List (List Field)) → Each A Fss → Type 0
  EachTells [] each = Unit {0}
  EachTells (Fs ∷ Fss) each = ((x y : Values Fs) → (each.0 x y ≡ r) ↔ (x ≡ y)) × EachTells Fss each.1

  module _ (not_before : before ≡ r → ⊥) (not_after : after ≡ r → ⊥) where
    choices_tell : (Fss : List (List Field)) (each : Each A Fss) → EachTells Fss each → (c d : Choice Fss) → (by before after Fss each c d ≡ r) ↔ (c ≡ d)
    choices_tell [] each h c d = absurd c
    choices_tell (Fs ∷ Fss) each h (inl x) (inl y) =
        let t = h.0 x y in (λ e. ap inl (t.0 e), λ e. t.1 (ap (left_or x) e))
    choices_tell (Fs ∷ Fss) each h (inl x) (inr y) = ((λ e. absurd (not_before e)), λ e. cc)
    choices_tell (Fs ∷ Fss) each h (inr x) (inl y) = ((λ e. absurd (not_after e)), λ e. cc)
    choices_tell (Fs ∷ Fss) each h (inr x) (inr y) =
        let t = choices_tell Fss each.1 h.1 x y in (λ e. ap inr (t.0 e), λ e. t.1 (ap (right_or x) e))

    -- then so does the comparison of the enum
    pub values_tell : (N : Record) (each : Each A N.parts) → EachTells N.parts each → (a b : N.D) → (by before after N.parts each (N.as_values a) (N.as_values b) ≡ r) ↔ (a ≡ b)
    values_tell N each h a b =
        let t = choices_tell N.parts each h (N.as_values a) (N.as_values b) in
        (λ e. values_one N a b (t.0 e), λ e. t.1 (ap N.as_values e))

  -- for a variant without a field
  pub bare : (x y : Unit {0}) → (r ≡ r) ↔ (x ≡ y)
  bare x y = (λ _. refl, λ _. refl)

  -- for a variant with one field
  pub alone : {V : Type 0} (compare : V → V → A) → ((x y : V) → (compare x y ≡ r) ↔ (x ≡ y)) → (x y : V × Unit {0}) → (compare x.0 y.0 ≡ r) ↔ (x ≡ y)
  alone {V} compare t x y =
      let e = t x.0 y.0 in (λ h. ap (λ (v : V). let p : V × Unit {0} = (v, tt) in p) (e.0 h), λ h. e.1 (ap (λ (p : V × Unit {0}). p.0) h))

-- the same proof n times, for n variants without a field
abbrev pub Copies : Type 0 → ℕ → Type 0
Copies U zero = Unit {0}
Copies U (suc n) = U × Copies U n

pub copies : {U : Type 0} → U → (n : ℕ) → Copies U n
copies u zero = tt
copies u (suc n) = (u, copies u n)
