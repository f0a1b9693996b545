-- The result of a parser, compared with the value that the text spells. `Ok` has that value,
-- `NotNumeric` means that there is none, and `Memory` may come with any text.
use Rattle.std.specs.Prelude.{◌≡◌, ℕ, List, Option, Some, None, Result, Ok, Err, chars}
use Rattle.lit_model.specs.Numeric.{ValueView}
use Rattle.lit_model.specs.NumericParse.{read_of, value_at, text_from, numeric_from}
use Rattle.lit_model.specs.declared.numeric.parse.Shape.{Shape}
use Rattle.lit_model.specs.declared.numeric.error.NumericError.{NumericError}
use Rattle.lit_model.specs.declared.numeric.error.NumericError.TheVariants as errors

-- the error is `Memory`, or the text spells no value
abbrev pub Fails : {Y : Type 0} → NumericError → Option Y → Type 0
Fails errors.Memory read = Unit {0}
Fails errors.NotNumeric read = read ≡ None

-- the view of the value returned is the value read, or the error fits (`Fails`)
abbrev pub Gives : {X Y : Type 0} → (X → Y) → Result X NumericError → Option Y → Type 0
Gives view (Ok x) read = read ≡ Some (view x)
Gives view (Err e) read = Fails e read

-- the parts of a text in the grammar
pub record IsShapeOf (cs : List ℕ) (s : Shape) : Type 0 where
  pub value : ValueView
  pub has_value : read_of (value_at s.delimiters (chars s.numbers.now)) ≡ Some value
  pub whole : numeric_from cs ≡ Some (record { value = value; prefix = text_from s.prefix.now; suffix = text_from s.suffix.now })
