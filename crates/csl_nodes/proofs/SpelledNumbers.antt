-- A number is read from a text exactly if the text spells one.
use Rattle.std.proofs.Common.{◌≡◌, ◌↔◌, ℕ, Bool, true, false, List, Option, Some, None, IsTrue, refl, ap, ◌∙◌}
use Rattle.std.specs.Prelude.{is_some, chars}
use Rattle.lit_model.specs.Chunks.{chunks_text}
use Rattle.lit_model.specs.Numeric.{NumericView, IsSpelled}
use Rattle.lit_model.specs.NumericParse.{numeric_from}
use Rattle.lit_model.specs.Text.{Chunk}
use Rattle.lit_model.proofs.Sound.{numeric_sound}
use Rattle.lit_model.proofs.Complete.{numeric_complete}
use Rattle.csl_nodes.specs.Condition.{is_number}

read_by : (cs : List ℕ) (b : Bool) (o : Option NumericView) → numeric_from cs ≡ o → IsTrue b ↔ IsSpelled cs → b ≡ is_some o
read_by cs true None e h = let s = h.0 refl in let read = numeric_complete s.value cs s.spelled in absurd cc
read_by cs false None e h = refl
read_by cs true (Some v) e h = refl
read_by cs false (Some v) e h = h.1 (record { value = v; spelled = numeric_sound cs v e })

pub is_number_by : (cs : List Chunk) (text : List ℕ) (b : Bool) → text ≡ chunks_text cs → IsTrue b ↔ IsSpelled (chars text) → b ≡ is_number cs
unfolding is_number
is_number_by cs text b same h = read_by (chars text) b (numeric_from (chars text)) refl h ∙ ap (λ t. is_some (numeric_from (chars t))) same
