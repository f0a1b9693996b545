-- The grammar of `Page` as a parser. Each step is a function of the remaining characters. It
-- returns the value that it reads and the characters after it, or None if the text does not fit.
-- The code parses shapes, which have numbers and slices of the input. The page and the item of a
-- shape (`page_of`, `item_of`) are internal: only private contracts cite them.
use Rattle.std.specs.Prelude.{ℕ, zero, suc, ◌==◌, if◌then◌else◌, List, [], ◌∷◌, Option, Some, None, count_by}
use Rattle.std.specs.Char.{is_whitespace}
use Rattle.lit_model.specs.Characters.{ampersand_char, comma_char}
use Rattle.lit_model.specs.Numeric.{NumericView, one}
use Rattle.lit_model.specs.NumericParse.{◌>>=◌, longest_prefix, after_longest_prefix, integer_at, affix_from, is_blank, text_from}
use Rattle.lit_model.specs.Page.{PartView, ampersand, comma, single, range, is_page_affix, is_range_mark, is_separator}
use Rattle.lit_model.specs.declared.page.parse.PageShape.{PageShape}
use Rattle.lit_model.specs.declared.page.parse.ItemShape.{ItemShape}
use Rattle.lit_model.specs.declared.page.parse.ItemShape.TheVariants.{Single, Pair}

-- a page at the front, and the characters after it
unfoldable pub page_at : List ℕ → Option (NumericView × List ℕ)
page_at cs = do
  n ← integer_at (after_longest_prefix is_page_affix cs)
  Some (record { value = one n.0; prefix = affix_from (longest_prefix is_page_affix cs); suffix = affix_from (longest_prefix is_page_affix n.1) }, after_longest_prefix is_page_affix n.1)

-- the characters after a range mark at the front and the white space that follows it
abbrev pub mark_first : List ℕ → Option (List ℕ)
mark_first [] = None
mark_first (c ∷ cs) = if is_range_mark c then Some (after_longest_prefix is_whitespace cs) else None

-- the characters after a range mark and the white space around it
unfoldable pub mark_at : List ℕ → Option (List ℕ)
mark_at cs = mark_first (after_longest_prefix is_whitespace cs)

-- the separator that a character is, if it is one
abbrev pub separator_of : ℕ → Option PartView
separator_of c = if c == comma_char then Some comma else (if c == ampersand_char then Some ampersand else None)

-- a separator at the front, and the characters after it and the white space that follows it
abbrev pub separator_first : List ℕ → Option (PartView × List ℕ)
separator_first [] = None
separator_first (c ∷ cs) = do
  s ← separator_of c
  Some (s, after_longest_prefix is_whitespace cs)

-- a separator, and the characters after it; skips the white space around the separator
unfoldable pub separator_at : List ℕ → Option (PartView × List ℕ)
separator_at cs = separator_first (after_longest_prefix is_whitespace cs)

-- an item, from its first page and the characters after a range mark: a page if there is no mark,
-- else a range
unfoldable pub item_from : NumericView × List ℕ → Option (List ℕ) → Option (PartView × List ℕ)
item_from v None = Some (single v.0, v.1)
item_from v (Some cs) = do
  w ← page_at cs
  Some (range v.0 w.0, w.1)

unfoldable pub item_at : List ℕ → Option (PartView × List ℕ)
item_at cs = do
  v ← page_at cs
  item_from v (mark_at v.1)

-- this many items each with a separator after it, then one item; and the characters after them
unfoldable pub parts_at : ℕ → List ℕ → Option (List PartView × List ℕ)
parts_at zero cs = do
  p ← item_at cs
  Some (p.0 ∷ [], p.1)
parts_at (suc k) cs = do
  p ← item_at cs
  s ← separator_at p.1
  more ← parts_at k s.1
  Some (p.0 ∷ s.0 ∷ more.0, more.1)

-- the pages that the characters spell, if there are any
unfoldable pub pages_from : List ℕ → Option (List PartView)
pages_from cs = do
  parts ← parts_at (count_by is_separator cs) (after_longest_prefix is_whitespace cs)
  if is_blank parts.1 then Some parts.0 else None

-- the page of a shape
abbrev pub page_of : PageShape → NumericView
page_of s = record { value = one s.number; prefix = text_from s.prefix.now; suffix = text_from s.suffix.now }

-- the item of a shape
abbrev pub item_of : ItemShape → PartView
item_of (Single page) = single (page_of page)
item_of (Pair first last) = range (page_of first) (page_of last)
