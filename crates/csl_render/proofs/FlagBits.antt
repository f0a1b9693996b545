-- The bits of a dry run.
use Rattle.std.proofs.Common.{◌≡◌, ℕ, ◌*◌, ◌^◌, ◌%◌, ◌<◌, min, ◌==◌, ◌&&◌, ◌||◌, inl, inr, zero, suc, Bool, true, false, refl, sym, ap, subst, ◌∙◌, arith, bit_or, bit_and, eq-eqb, eqb-true}
use Rattle.std.proofs.lemmas.Bool.{cases_eq}
use Rattle.std.proofs.lemmas.Nat.Bits.{bit_at_and, bit_at-lt, bit_at_set_same, bit_at_set_other}
use Rattle.std.specs.Int.{bit_at, w32}
use Rattle.csl_elements.proofs.VariableSets.{or_bit}
use Rattle.csl_render.specs.Flags.{has_flag}

min_bit : (x y : ℕ) → x < 2 → y < 2 → (min x y == 1) ≡ ((y == 1) && (x == 1))
min_bit zero zero p q = refl
min_bit zero (suc zero) p q = refl
min_bit (suc zero) zero p q = refl
min_bit (suc zero) (suc zero) p q = refl
min_bit (suc (suc x)) y p q = absurd (omega (arith, p))
min_bit x (suc (suc y)) p q = absurd (omega (arith, q))

pub and_flag : (a m i : ℕ) → has_flag (bit_and a m) i ≡ (has_flag m i && has_flag a i)
and_flag a m i = ap (λ x. x == 1) (bit_at_and a m i) ∙ min_bit (bit_at a i) (bit_at m i) (bit_at-lt a i) (bit_at-lt m i)

pub or_flag : (a b i : ℕ) → has_flag (bit_or a b) i ≡ (has_flag a i || has_flag b i)
or_flag a b i = or_bit a b i

false_by : (b : Bool) → (b ≡ true → true ≡ false) → b ≡ false
false_by true h = h refl
false_by false h = refl

-- a number with one more bit
pub with_flag : (a p i : ℕ) → p < 32 → has_flag (bit_or a (1 * 2 ^ p % 4294967296)) i ≡ ((i == p && true) || has_flag a i)
with_flag a p i low =
    elim (cases_eq i p) as (λ _. has_flag (bit_or a (1 * 2 ^ p % 4294967296)) i ≡ ((i == p && true) || has_flag a i)) [
      | inl same ↦
          subst (λ k. has_flag (bit_or a (1 * 2 ^ p % 4294967296)) k ≡ ((k == p && true) || has_flag a k)) (sym same)
          (eq-eqb (bit_at (bit_or a (1 * 2 ^ p % 4294967296)) p) 1 (bit_at_set_same w32 a p low) ∙ ap (λ b. (b && true) || has_flag a p) (sym (eq-eqb p p refl)))
      | inr apart ↦
          ap (λ x. x == 1) (bit_at_set_other w32 a p low i apart)
          ∙ ap (λ b. (b && true) || has_flag a i) (sym (false_by (i == p) (λ e. absurd (apart (eqb-true i p e)))))
    ]

pub and_true : (a : Bool) → (a && true) ≡ a
and_true true = refl
and_true false = refl

pub and_false : (a : Bool) → (a && false) ≡ false
and_false true = refl
and_false false = refl
