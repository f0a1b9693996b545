-- The ordinals of a style's locales in rows by their slots (CSL 1.0.2, Ordinals; Gender-specific
-- Ordinals): a row for each slot from 0 to 99, one for the default, and one for each word from 1 to 10.
-- All ordinals that a lookup may take for a number are in three of these rows. A lookup compares the
-- slot, the match and the gender of an ordinal and takes the first that fits. So of several ordinals
-- that agree in these three, which are twins, a row has only the first.
use Rattle.std.specs.Prelude.{◌≡◌, ℕ, ◌+◌, ◌<◌, Bool, true, false, ◌&&◌, ◌||◌, ◌==◌, if◌then◌else◌, List, [], ◌∷◌, ◌++◌, length, map, filter, slice_index_or, Vec}
use Rattle.std.specs.Option.{option_eq}
use Rattle.std.specs.declared.alloc.Global.{Global}
use denote.Enum.Bare.{sameb}
use Rattle.csl_common.specs.contracts.ordinal.GrammarGender.{the_type as the_gender}
use Rattle.csl_elements.specs.contracts.locale.OrdinalMatch.{the_type as the_match}
use Rattle.csl_elements.specs.contracts.locale.OrdinalSlotPartialEq.TheImpl.{eq-value}
use Rattle.csl_elements.specs.declared.locale.OrdinalSlot.{OrdinalSlot}
use Rattle.csl_elements.specs.declared.locale.OrdinalSlot.TheVariants.{Default, Two, Long}
use Rattle.csl_elements.specs.declared.locale.OrdinalTerm.{OrdinalTerm}
use Rattle.csl_elements.specs.declared.locale.ordinal_table.OrdinalTable.{OrdinalTable}
use Rattle.csl_elements.specs.declared.locale.Locale.{Locale}
use Rattle.csl_elements.specs.Locale.{OrdinalView, ordinal_view, ordinals_of}
use Rattle.csl_elements.specs.Ordinals.{first_ordinals}

-- the place of the row of a slot
abbrev pub slot_place : OrdinalSlot → ℕ
slot_place Default = 100
slot_place (Two slot) = slot
slot_place (Long word) = 100 + word

abbrev pub is_at : ℕ → OrdinalView → Bool
is_at place o = slot_place o.slot == place

-- the two agree in all that a lookup compares
abbrev pub is_twin : OrdinalView → OrdinalView → Bool
is_twin x y = (eq-value.it x.slot y.slot && option_eq (sameb the_match) x.matching y.matching) && option_eq (sameb the_gender) x.gender y.gender

abbrev pub has_twin : List OrdinalView → OrdinalView → Bool
has_twin [] o = false
has_twin (x ∷ row) o = is_twin x o || has_twin row o

-- a row with an ordinal more, unless it has a twin in the row
abbrev pub with_ordinal : List OrdinalView → OrdinalView → List OrdinalView
with_ordinal row o = if has_twin row o then row else row ++ o ∷ []

abbrev pub with_ordinals : List OrdinalView → List OrdinalView → List OrdinalView
with_ordinals row [] = row
with_ordinals row (o ∷ os) = with_ordinals (with_ordinal row o) os

abbrev pub row_views : List (Vec OrdinalTerm Global) → List (List OrdinalView)
row_views rows = map (λ row. map ordinal_view row.items) rows

-- each row has the ordinals of its place, in order, without those that have a twin before them
pub record AreRowsOf (rows : List (Vec OrdinalTerm Global)) (all : List OrdinalView) : Type 0 where
  pub count : length rows ≡ 111
  pub holds : (place : ℕ) → place < 111 → slice_index_or (row_views rows) place [] ≡ with_ordinals [] (filter (is_at place) all)

-- the table has the ordinals of the first of these locales that has any
abbrev pub IsTableOf : OrdinalTable → List Locale → Type 0
IsTableOf table locales = AreRowsOf table.rows.items (first_ordinals (map ordinals_of locales))
