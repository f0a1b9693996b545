-- Texts that spell no pages.
use Rattle.std.proofs.Common.{◌≡◌, refl, ℕ, List, Some, chars}
use Rattle.serde_json.specs.Data.{Data}
use Rattle.serde_json.specs.Find.{as_str}
use Rattle.lit_model.specs.MaybeTyped.{text}
use Rattle.lit_model.specs.Page.{PartView, SpellsPages}
use Rattle.lit_model.specs.declared.numeric.error.NumericError.{NumericError}
use Rattle.lit_model.specs.declared.numeric.error.NumericError.TheVariants.{Memory, NotNumeric}
use Rattle.csl_wire_cite.specs.Numbers.{ArePages}

two_errors : (e : NumericError) → e ≡ NotNumeric → e ≡ Memory → ⊥
two_errors e not memory = cc

pub text_stays : (d : Data) (t : List ℕ) (e : NumericError) → as_str d ≡ Some t → e ≡ NotNumeric → ((v : List PartView) → SpellsPages v (chars t) → e ≡ Memory) → ArePages d (text t)
text_stays d t e is not only = record { spelled = t; is = is; pages = (refl, λ v s. two_errors e not (only v s)) }
