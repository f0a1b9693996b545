-- Consequences of the exact result of the parser of pages.
use Rattle.std.proofs.Common.{◌≡◌, ℕ, true, List, Option, Some, None, Result, Ok, Err, MatchResult, refl, sym, ◌∙◌}
use Rattle.std.specs.Prelude.{IfOk}
use Rattle.lit_model.specs.declared.numeric.error.NumericError.{NumericError}
use Rattle.lit_model.specs.declared.numeric.error.NumericError.TheVariants as errors
use Rattle.lit_model.specs.PageParse.{pages_from}
use Rattle.std.specs.Str.{all_scalars}
use Rattle.lit_model.proofs.PageRoundTrip.{pages_writable}
use Rattle.lit_model.specs.Page.{AreWritable, PartView, SpellsPages}
use Rattle.lit_model.specs.Parsing.{Gives}
use Rattle.lit_model.proofs.Pieces.{some_is}
use Rattle.lit_model.proofs.PageSound.{pages_sound}
use Rattle.lit_model.proofs.PageComplete.{pages_complete}

abbrev Parts : Type 0
Parts = List PartView

pub found : {X : Type 0} (view : X → Parts) (cs : List ℕ) (r : Result X NumericError) → Gives view r (pages_from cs) → IfOk r (λ n. SpellsPages (view n) cs)
found view cs (Ok n) h = pages_sound cs (view n) h
found view cs (Err e) h = tt

pub only : {X : Type 0} (view : X → Parts) (cs : List ℕ) (r : Result X NumericError) → Gives view r (pages_from cs) → (v : Parts) → SpellsPages v cs → MatchResult r (λ n. view n ≡ v) (λ e. e ≡ errors.Memory)
only view cs (Ok n) h v s = some_is (view n) v (sym h ∙ pages_complete v cs s)
only view cs (Err errors.Memory) h v s = refl
only view cs (Err errors.NotNumeric) h v s = let e = pages_complete v cs s in absurd cc

none_if : (cs : List ℕ) (o : Option Parts) → pages_from cs ≡ o → ((v : Parts) → SpellsPages v cs → ⊥) → pages_from cs ≡ None
none_if cs None e h = e
none_if cs (Some v) e h = absurd (h v (pages_sound cs v e))

-- if the characters spell no pages, none are read
pub nothing_read : (cs : List ℕ) → ((v : Parts) → SpellsPages v cs → ⊥) → pages_from cs ≡ None
nothing_read cs h = none_if cs (pages_from cs) refl h

-- characters spell at most one list of pages
pub unique : (cs : List ℕ) (v w : Parts) → SpellsPages v cs → SpellsPages w cs → v ≡ w
unique cs v w s t = some_is v w (sym (pages_complete v cs s) ∙ pages_complete w cs t)

-- pages that are read are writable
pub writable : {X : Type 0} (view : X → Parts) (cs : List ℕ) → all_scalars cs ≡ true → (r : Result X NumericError) → Gives view r (pages_from cs) → IfOk r (λ n. AreWritable (view n))
writable view cs is_scalar (Ok n) h = pages_writable (view n) cs is_scalar (pages_sound cs (view n) h)
writable view cs is_scalar (Err e) h = tt
