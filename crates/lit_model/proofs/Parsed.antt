-- Consequences of the exact result of `parse`.
use Rattle.std.proofs.Common.{◌≡◌, ◌↔◌, ℕ, true, List, Option, Some, None, Result, Ok, Err, MatchResult, refl, sym, ◌∙◌}
use Rattle.std.specs.Prelude.{IfOk}
use Rattle.lit_model.specs.declared.numeric.error.NumericError.{NumericError}
use Rattle.lit_model.specs.declared.numeric.error.NumericError.TheVariants as errors
use Rattle.lit_model.specs.NumericParse.{numeric_from}
use Rattle.std.specs.Str.{all_scalars}
use Rattle.lit_model.proofs.Writable.{numeric_writable}
use Rattle.lit_model.specs.Numeric.{IsWritable, NumericView, Spells}
use Rattle.lit_model.specs.Parsing.{Gives}
use Rattle.lit_model.proofs.Pieces.{some_is}
use Rattle.lit_model.proofs.Sound.{numeric_sound}
use Rattle.lit_model.proofs.Complete.{numeric_complete}

pub found : {X : Type 0} (view : X → NumericView) (cs : List ℕ) (r : Result X NumericError) → Gives view r (numeric_from cs) → IfOk r (λ n. Spells (view n) cs)
found view cs (Ok n) h = numeric_sound cs (view n) h
found view cs (Err e) h = tt

pub only : {X : Type 0} (view : X → NumericView) (cs : List ℕ) (r : Result X NumericError) → Gives view r (numeric_from cs) → (v : NumericView) → Spells v cs → MatchResult r (λ n. view n ≡ v) (λ e. e ≡ errors.Memory)
only view cs (Ok n) h v s = some_is (view n) v (sym h ∙ numeric_complete v cs s)
only view cs (Err errors.Memory) h v s = refl
only view cs (Err errors.NotNumeric) h v s = let e = numeric_complete v cs s in absurd cc

none_if : (cs : List ℕ) (o : Option NumericView) → numeric_from cs ≡ o → ((v : NumericView) → Spells v cs → ⊥) → numeric_from cs ≡ None
none_if cs None e h = e
none_if cs (Some v) e h = absurd (h v (numeric_sound cs v e))

-- if the characters spell no value, none is read
pub nothing_read : (cs : List ℕ) → ((v : NumericView) → Spells v cs → ⊥) → numeric_from cs ≡ None
nothing_read cs h = none_if cs (numeric_from cs) refl h

-- characters spell at most one value
pub unique : (cs : List ℕ) (v w : NumericView) → Spells v cs → Spells w cs → v ≡ w
unique cs v w s t = some_is v w (sym (numeric_complete v cs s) ∙ numeric_complete w cs t)

-- a value that is read is writable
pub writable : {X : Type 0} (view : X → NumericView) (cs : List ℕ) → all_scalars cs ≡ true → (r : Result X NumericError) → Gives view r (numeric_from cs) → IfOk r (λ n. IsWritable (view n))
writable view cs is_scalar (Ok n) h = numeric_writable (view n) cs is_scalar (numeric_sound cs (view n) h)
writable view cs is_scalar (Err e) h = tt

-- a value is read exactly if the characters spell it
pub grammar : (cs : List ℕ) (v : NumericView) → (numeric_from cs ≡ Some v) ↔ Spells v cs
grammar cs v = (numeric_sound cs v, numeric_complete v cs)
