-- Refusals: the names of their codes, no two alike; their places as JSON Pointers (RFC 6901), a `/`
-- and a name or a number for each step; and errors seen from one step further out.
use Rattle.std.specs.Prelude.{ℕ, ◌≡◌, ⊤, Bool, true, false, List, [], ◌∷◌, ◌++◌, codes}
use Rattle.std.specs.Fmt.{decimal}
use Rattle.csl_wire.specs.declared.refusal.Step.{Step}
use Rattle.csl_wire.specs.declared.refusal.Step.TheVariants as steps
use Rattle.csl_wire.specs.declared.refusal.Refusal.{Refusal}
use Rattle.csl_wire.specs.declared.refusal.WireError.{WireError}
use Rattle.csl_wire.specs.declared.refusal.WireError.TheVariants as errors
use Rattle.csl_wire.specs.declared.refusal.Code.{Code}
use Rattle.csl_wire.specs.declared.refusal.Code.TheVariants as code

abbrev pub code_name : Code → List ℕ
code_name code.NotJson = codes "not-json"
code_name code.WrongType = codes "wrong-type"
code_name code.UnknownMember = codes "unknown-member"
code_name code.MissingMember = codes "missing-member"
code_name code.UnknownName = codes "unknown-name"
code_name code.OutOfRange = codes "out-of-range"
code_name code.TooLong = codes "too-long"
code_name code.ReservedCharacter = codes "reserved-character"
code_name code.TooDeep = codes "too-deep"
code_name code.CyclicMacro = codes "cyclic-macro"
code_name code.Unsupported = codes "unsupported"
code_name code.TooLarge = codes "too-large"
code_name code.Full = codes "full"

-- the text of a step, which begins with a slash
abbrev pub step_text : Step → List ℕ
step_text (steps.Member name) = 47 ∷ name.now
step_text (steps.Item place) = 47 ∷ decimal place

-- the text of steps of which the last one is first
abbrev pub steps_text : List Step → List ℕ
steps_text [] = []
steps_text (s ∷ ss) = steps_text ss ++ step_text s

-- the place of a refused value
abbrev pub pointer_of : Refusal → List ℕ
pointer_of r = steps_text r.steps.items

abbrev pub is_refused : WireError → Bool
is_refused errors.Memory = false
is_refused (errors.Refused r) = true

-- the refusal `s` is `r`, one step further out
pub record IsStepOut (step : Step) (r s : Refusal) : Type 0 where
  pub code : s.code ≡ r.code
  pub reason : s.reason ≡ r.reason
  pub detail : s.detail ≡ r.detail
  pub steps : s.steps.items ≡ r.steps.items ++ step ∷ []

-- the error `f` is `e` from one step further out, unless memory runs out
abbrev pub IsFurtherOut : Step → WireError → WireError → Type 0
IsFurtherOut step e errors.Memory = ⊤
IsFurtherOut step errors.Memory (errors.Refused s) = ⊥
IsFurtherOut step (errors.Refused r) (errors.Refused s) = IsStepOut step r s
