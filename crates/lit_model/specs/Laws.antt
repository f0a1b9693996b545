-- The laws of numbers and pages as texts. What is read is what the grammar spells (`Numeric`, `Page`),
-- what is written (`NumericWrite`, `PageWrite`) is spelled so, and so it is read back. Each holds
-- for every input, and `proofs/Theorems.antt` proves it. Clauses of `Numeric::parse` and
-- `PageRanges::parse` follow from them.
use Rattle.std.specs.Prelude.{◌≡◌, ◌↔◌, ℕ, true, List, Some}
use Rattle.std.specs.Str.{all_scalars, chars}
use Rattle.lit_model.specs.Numeric.{NumericView, Spells, IsWritable}
use Rattle.lit_model.specs.NumericParse.{numeric_from}
use Rattle.lit_model.specs.NumericWrite.{numeric_text}
use Rattle.lit_model.specs.Page.{PartView, SpellsPages, AreWritable}
use Rattle.lit_model.specs.PageParse.{pages_from}
use Rattle.lit_model.specs.PageWrite.{pages_text}

-- Characters are read as a number exactly if they spell it.
abbrev pub NumbersAreReadAsSpelled : Type 0
NumbersAreReadAsSpelled = (cs : List ℕ) (v : NumericView) → (numeric_from cs ≡ Some v) ↔ Spells v cs

-- Characters spell at most one number.
abbrev pub NumbersAreUnique : Type 0
NumbersAreUnique = (cs : List ℕ) (v w : NumericView) → Spells v cs → Spells w cs → v ≡ w

-- A number that a text spells is writable.
abbrev pub SpelledNumbersAreWritable : Type 0
SpelledNumbersAreWritable = (cs : List ℕ) (v : NumericView) → all_scalars cs ≡ true → Spells v cs → IsWritable v

-- The text of a writable number is read as that number.
abbrev pub WrittenNumbersReadBack : Type 0
WrittenNumbersReadBack = (v : NumericView) → IsWritable v → numeric_from (chars (numeric_text v)) ≡ Some v

-- ---- the same of pages

abbrev pub PagesAreReadAsSpelled : Type 0
PagesAreReadAsSpelled = (cs : List ℕ) (v : List PartView) → (pages_from cs ≡ Some v) ↔ SpellsPages v cs

abbrev pub PagesAreUnique : Type 0
PagesAreUnique = (cs : List ℕ) (v w : List PartView) → SpellsPages v cs → SpellsPages w cs → v ≡ w

abbrev pub SpelledPagesAreWritable : Type 0
SpelledPagesAreWritable = (cs : List ℕ) (v : List PartView) → all_scalars cs ≡ true → SpellsPages v cs → AreWritable v

abbrev pub WrittenPagesReadBack : Type 0
WrittenPagesReadBack = (v : List PartView) → AreWritable v → pages_from (chars (pages_text v)) ≡ Some v
