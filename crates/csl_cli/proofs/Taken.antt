-- If a line was written through a mutable reference to a writer, the writer took that line.
use Rattle.std.proofs.Common.{◌≡◌, ℕ, List, MutBor}
use Rattle.std.specs.Prelude.{Option, Some, None, IsSomeAnd}
use Rattle.csl_common.proofs.Writes.{PassedOn, passed_back}
use Rattle.csl_cli.specs.Answers.{TakesLine, line}

module _ {W S : Type 0} (took : W → List ℕ → W → Type 0) (inner : S → MutBor W) where
  pub some_passed_back : (s t : S) (lent back : MutBor W) (v : W) (o : Option (List ℕ)) → inner s ≡ lent → back ≡ inner t → (back.ghost_name ≡ lent.ghost_name → v ≡ back.now) → IsSomeAnd o (λ text. TakesLine (PassedOn took inner) s text t) → IsSomeAnd o (λ text. TakesLine took lent.now text v)
  some_passed_back s t lent back v (Some text) from to ends h = passed_back took inner s t lent back v (line text) from to ends h
  some_passed_back s t lent back v None from to ends h = h
