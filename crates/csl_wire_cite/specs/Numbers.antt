-- Which numbers and pages JSON values are read as (CSL 1.0.2, Number Variables). A JSON number is
-- that number. A text is the number or the pages that its characters spell, or else stays a text.
use Rattle.std.specs.Prelude.{◌≡◌, ℕ, ℤ, List, Option, Some, None, option_map, chars}
use Rattle.serde_json.specs.Data.{Data, Num}
use Rattle.serde_json.specs.Find.{as_number, as_str}
use Rattle.lit_model.specs.MaybeTyped.{MaybeView, typed, text}
use Rattle.lit_model.specs.Numeric.{NumericView, one}
use Rattle.lit_model.specs.Page.{PartView, SpellsPages}
use Rattle.csl_entry.specs.Answers.{numeric_or_text}
use Rattle.csl_wire_cite.specs.Reads.{read_integer}

abbrev pub plain_number : ℤ → NumericView
plain_number z = record { value = one z; prefix = None; suffix = None }

abbrev read_number_or : Option Num → Data → Option (MaybeView NumericView)
read_number_or (Some n) d = option_map (λ z. typed (plain_number z)) (read_integer d)
read_number_or None d = option_map numeric_or_text (as_str d)

abbrev pub read_number : Data → Option (MaybeView NumericView)
read_number d = read_number_or (as_number d) d

-- what a text is as pages
abbrev pub ArePagesOf : List ℕ → MaybeView (List PartView) → Type 0
ArePagesOf t (typed pages) = SpellsPages pages (chars t)
ArePagesOf t (text other) = (other ≡ t) × ((pages : List PartView) → SpellsPages pages (chars t) → ⊥)

pub record ArePages (d : Data) (v : MaybeView (List PartView)) : Type 0 where
  pub spelled : List ℕ
  pub is : as_str d ≡ Some spelled
  pub pages : ArePagesOf spelled v
