-- A shape is found exactly if the text spells a number.
use Rattle.std.proofs.Common.{◌≡◌, ◌↔◌, ℕ, Bool, List, Option, Some, None, IsTrue, sym, ◌∙◌}
use Rattle.std.specs.Prelude.{MatchOption, is_some}
use Rattle.std.proofs.lemmas.Bool.{false≢true}
use Rattle.lit_model.specs.declared.numeric.parse.Shape.{Shape}
use Rattle.lit_model.specs.NumericParse.{numeric_from}
use Rattle.lit_model.specs.Parsing.{IsShapeOf}
use Rattle.lit_model.specs.Numeric.{IsSpelled}
use Rattle.lit_model.proofs.Sound.{numeric_sound}
use Rattle.lit_model.proofs.Complete.{numeric_complete}

pub spelled_if : (cs : List ℕ) (o : Option Shape) (b : Bool) → b ≡ is_some o → MatchOption o (numeric_from cs ≡ None) (IsShapeOf cs) → IsTrue b ↔ IsSpelled cs
spelled_if cs None b e h = (λ t. absurd (false≢true (sym e ∙ t)), λ s. let read = numeric_complete s.value cs s.spelled in absurd cc)
spelled_if cs (Some shape) b e h = (λ t. record { value = _; spelled = numeric_sound cs _ h.whole }, λ s. e)
