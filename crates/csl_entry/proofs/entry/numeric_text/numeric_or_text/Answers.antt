use Rattle.std.proofs.Common.{◌≡◌, List, ℕ, subst, ap, chars}
use Rattle.lit_model.specs.MaybeTyped.{MaybeView, typed, text}
use Rattle.lit_model.specs.Numeric.{NumericView, Spells}
use Rattle.csl_entry.proofs.entry.numeric_text.numeric_or_text.Goals as goal

-- equal typed values hold the same number
one_number : {x y : NumericView} → ◌≡◌ {A = MaybeView NumericView} (typed x) (typed y) → x ≡ y
one_number e = cc

-- a text is no number
no_number : {bytes : List ℕ} {v : NumericView} → ◌≡◌ {A = MaybeView NumericView} (text bytes) (typed v) → ⊥
no_number e = cc

pub returns-in-Ok-clause-spells : goal.returns-in-Ok-clause-spells
returns-in-Ok-clause-spells c = λ v. (λ e. subst (λ w. Spells w (chars c.args.text.now)) (one_number e) c.in-Ok.ensures.found, λ s. ap typed (c.in-Ok.ensures.only v s))

pub returns-in_ok-text-in-Err-NotNumeric-clause-spells :
    goal.returns-in_ok-text-in-Err-NotNumeric-clause-spells
returns-in_ok-text-in-Err-NotNumeric-clause-spells c = λ v. (λ e. absurd (no_number e), λ s. let only = rw c.in-Err-NotNumeric.field-0-is at c.in-Err-NotNumeric.ensures.only v s in absurd cc)
