-- An entry of any type has an answer to each number, page, standard, name and date variable, and is
-- of some kinds (CSL 1.0.2, Appendix III, Types; Appendix IV, Variables). A standard variable has
-- an answer in the long form and one in the short. Each answer is a function of the entry. Its key
-- and its language are not among the answers. A text in an answer may be of one chunk (`one_chunk`;
-- Standard Variables). A text in answer to a number variable is a number if its characters spell
-- one, else it stays a text (`numeric_or_text`; Number).
use Rattle.std.specs.Prelude.{Bool, List, Option, ℕ, [], ◌∷◌, option_map, unwrap_or, chars}
use Rattle.std.specs.Cow.{cow_value}
use Rattle.std.specs.declared.borrow.Cow.{Cow}
use Rattle.csl_elements.specs.declared.taxonomy.NumberVariable.{NumberVariable}
use Rattle.csl_elements.specs.declared.taxonomy.PageVariable.{PageVariable}
use Rattle.csl_elements.specs.declared.taxonomy.StandardVariable.{StandardVariable}
use Rattle.csl_elements.specs.declared.taxonomy.NameVariable.{NameVariable}
use Rattle.csl_elements.specs.declared.taxonomy.DateVariable.{DateVariable}
use Rattle.csl_elements.specs.declared.taxonomy.Kind.{Kind}
use Rattle.csl_common.specs.declared.form.LongShortForm.{LongShortForm}
use Rattle.lit_model.specs.Date.{DateView}
use Rattle.lit_model.specs.MaybeTyped.{MaybeView, typed, text}
use Rattle.lit_model.specs.Numeric.{NumericView}
use Rattle.lit_model.specs.Page.{PartView}
use Rattle.lit_model.specs.Person.{PersonView}
use Rattle.lit_model.specs.Text.{Chunk}
use Rattle.lit_model.specs.declared.text.ChunkKind.{ChunkKind}
use Rattle.lit_model.specs.NumericParse.{numeric_from}

-- the answer of an entry to each variable, and its kinds
pub record Answers : Type 0 where
  pub numbers : NumberVariable → Option (MaybeView NumericView)
  pub pages : PageVariable → Option (MaybeView (List PartView))
  pub standards : LongShortForm → StandardVariable → Option (List Chunk)
  pub names : NameVariable → List PersonView
  pub dates : DateVariable → Option DateView
  pub kinds : Kind → Bool

-- a view of a value that may be borrowed
abbrev pub cow_view : {T V : Type 0} → (T → V) → Cow T → V
cow_view view c = view (cow_value c)

-- the text of these bytes as one chunk
abbrev pub one_chunk : ChunkKind → List ℕ → List Chunk
one_chunk kind bytes = record { value = bytes; kind = kind } ∷ []

-- the number that the text spells, or else the text
abbrev pub numeric_or_text : List ℕ → MaybeView NumericView
numeric_or_text bytes = unwrap_or (option_map typed (numeric_from (chars bytes))) (text bytes)
