-- The text of pages, as `Display` writes it: the parts in order, `, ` and ` & ` for separators, and
-- a `-` between the two pages of a range.
use Rattle.std.specs.Prelude.{ℕ, List, ◌++◌, codes}
use Rattle.std.specs.List.{flat_map}
use Rattle.lit_model.specs.Page.{PartView, ampersand, comma, escaped, single, range}
use Rattle.lit_model.specs.NumericWrite.{numeric_text}

-- a separator with its spaces, a page, or two pages joined by a `-`
abbrev pub part_text : PartView → List ℕ
part_text ampersand = codes " & "
part_text comma = codes ", "
part_text (escaped from to) = numeric_text from ++ (codes "-" ++ numeric_text to)
part_text (single page) = numeric_text page
part_text (range from to) = numeric_text from ++ (codes "-" ++ numeric_text to)

-- the parts in order
abbrev pub pages_text : List PartView → List ℕ
pages_text parts = flat_map part_text parts
