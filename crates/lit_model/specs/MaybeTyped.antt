-- A field of an entry as plain data: a typed value, or a text in its place.
use Rattle.std.specs.Prelude.{ℕ, List, string_bytes}
use Rattle.lit_model.specs.declared.maybe_typed.MaybeTyped.{MaybeTyped}
use Rattle.lit_model.specs.declared.maybe_typed.MaybeTyped.TheVariants as of_kind

-- the view of a typed value, or the bytes of a text
pub data MaybeView (V : Type 0) : Type 0 where
  typed : V → MaybeView V
  text : List ℕ → MaybeView V

abbrev pub maybe_view : {T V : Type 0} → (T → V) → MaybeTyped T → MaybeView V
maybe_view v (of_kind.Typed x) = typed (v x)
maybe_view v (of_kind.String s) = text (string_bytes s)
