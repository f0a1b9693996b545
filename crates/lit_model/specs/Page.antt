-- Pages (CSL 1.0.2, Appendix IV, `page`). Numbers, white space and the affix characters are those
-- of `Numeric`, but an en dash is no affix character here.
-- - A separator is `,` or `&`. A range mark is `-` or the en dash (U+2013).
-- - A page is a prefix, one number and a suffix, with nothing between them.
-- - An item is a page, or two pages with a range mark between them, with or without white space
--   around it.
-- - A text spells pages (`SpellsPages`) if it is optional white space, items with a separator
--   between each two, and optional white space. A separator may have white space around it. The
--   parts are the items and the separators, in order. No text spells an escaped range.
-- - `first_page` is the page that the first item begins with. It skips separators. A term is in the
--   plural (`plural_pages`) beside a range, even an escaped one, and beside more than one part.
use Rattle.std.specs.Prelude.{◌≡◌, ℕ, Bool, true, false, not, ◌&&◌, ◌||◌, ◌==◌, List, [], ◌∷◌, ◌++◌, map, ℤ, Option, Some, None, ⊤}
use Rattle.std.specs.Option.{option_or}
use Rattle.lit_model.specs.Characters.{ampersand_char, comma_char, en_dash_char, hyphen_char}
use Rattle.lit_model.specs.declared.page.PageRanges.{PageRanges}
use Rattle.lit_model.specs.declared.page.PageRangesPart.{PageRangesPart}
use Rattle.lit_model.specs.declared.page.PageRangesPart.TheVariants.{Ampersand, Comma, EscapedRange, SinglePage, Range}
use Rattle.lit_model.specs.Numeric.{ValueView, NumericView, one, several, numeric_view, is_affix, IsBlank, SpellsInteger, SpellsAffix, IsWritableInteger, IsWritableAffix}

-- ---- values as plain data

pub data PartView : Type 0 where
  ampersand : PartView
  comma : PartView
  escaped : NumericView → NumericView → PartView
  single : NumericView → PartView
  range : NumericView → NumericView → PartView

abbrev pub part_view : PageRangesPart → PartView
part_view Ampersand = ampersand
part_view Comma = comma
part_view (EscapedRange from to) = escaped (numeric_view from) (numeric_view to)
part_view (SinglePage page) = single (numeric_view page)
part_view (Range from to) = range (numeric_view from) (numeric_view to)

abbrev pub parts_view : List PageRangesPart → List PartView
parts_view parts = map part_view parts

-- the parts in order
abbrev pub pages_view : PageRanges → List PartView
pages_view pages = parts_view pages.ranges.items

-- the page that an item begins with; None for a separator
abbrev pub starting_page : PartView → Option NumericView
starting_page ampersand = None
starting_page comma = None
starting_page (escaped from to) = Some from
starting_page (single page) = Some page
starting_page (range from to) = Some from

-- the page that the first item begins with
abbrev pub first_page : List PartView → Option NumericView
first_page [] = None
first_page (p ∷ more) = option_or (starting_page p) (first_page more)

-- whether the part is a range
abbrev pub is_range : PartView → Bool
is_range ampersand = false
is_range comma = false
is_range (escaped from to) = true
is_range (single page) = false
is_range (range from to) = true

-- whether a term beside the pages is in the plural: beside a range, or beside more than one part
abbrev pub plural_pages : List PartView → Bool
plural_pages [] = false
plural_pages (p ∷ []) = is_range p
plural_pages (p ∷ q ∷ more) = true

-- ---- the grammar, over the characters of a text

-- whether a character joins the ends of a range: `-` or the en dash
abbrev pub is_range_mark : ℕ → Bool
is_range_mark c = c == hyphen_char || c == en_dash_char

-- whether a character separates two items: `,` or `&`
abbrev pub is_separator : ℕ → Bool
is_separator c = c == comma_char || c == ampersand_char

-- whether a character may be in the prefix or the suffix of a page: as for a number, but no en dash
abbrev pub is_page_affix : ℕ → Bool
is_page_affix c = is_affix c && not (c == 0x2013)

-- a page: a prefix, one number, a suffix
pub record SpellsPage (v : NumericView) (cs : List ℕ) : Type 0 where
  pub prefix : List ℕ
  pub digits : List ℕ
  pub suffix : List ℕ
  pub number : ℤ
  pub whole : cs ≡ prefix ++ (digits ++ suffix)
  pub is_one : v.value ≡ one number
  pub has_prefix : SpellsAffix is_page_affix v.prefix prefix
  pub has_number : SpellsInteger number digits
  pub has_suffix : SpellsAffix is_page_affix v.suffix suffix

-- two pages with a range mark between them, with or without white space around it
pub record SpellsRange (v w : NumericView) (cs : List ℕ) : Type 0 where
  pub first : List ℕ
  pub before : List ℕ
  pub mark : ℕ
  pub after : List ℕ
  pub last : List ℕ
  pub whole : cs ≡ first ++ (before ++ (mark ∷ (after ++ last)))
  pub is_mark : is_range_mark mark ≡ true
  pub has_first : SpellsPage v first
  pub blank_before : IsBlank before
  pub blank_after : IsBlank after
  pub has_last : SpellsPage w last

-- an item is a page or a range
abbrev pub SpellsItem : PartView → List ℕ → Type 0
SpellsItem ampersand cs = ⊥
SpellsItem comma cs = ⊥
SpellsItem (escaped v w) cs = ⊥
SpellsItem (single v) cs = SpellsPage v cs
SpellsItem (range v w) cs = SpellsRange v w cs

-- the character of a separator
abbrev pub SpellsSeparator : PartView → ℕ → Type 0
SpellsSeparator ampersand c = c ≡ ampersand_char
SpellsSeparator comma c = c ≡ comma_char
SpellsSeparator (escaped v w) c = ⊥
SpellsSeparator (single v) c = ⊥
SpellsSeparator (range v w) c = ⊥

-- items with a separator between each two, with or without white space around it
abbrev pub SpellsParts : List PartView → List ℕ → Type 0
SpellsParts [] cs = ⊥
SpellsParts (p ∷ []) cs = SpellsItem p cs
SpellsParts (p ∷ s ∷ []) cs = ⊥
SpellsParts (p ∷ s ∷ q ∷ more) cs = (item : List ℕ) × (before : List ℕ) × (c : ℕ) × (after : List ℕ) × (rest : List ℕ)
    × (cs ≡ item ++ (before ++ (c ∷ (after ++ rest))))
    × SpellsItem p item × IsBlank before × SpellsSeparator s c × IsBlank after × SpellsParts (q ∷ more) rest

-- the characters spell the pages: optional white space, items and separators, optional white space
pub record SpellsPages (parts : List PartView) (cs : List ℕ) : Type 0 where
  pub before : List ℕ
  pub inner : List ℕ
  pub after : List ℕ
  pub whole : cs ≡ before ++ (inner ++ after)
  pub blank_before : IsBlank before
  pub has_parts : SpellsParts parts inner
  pub blank_after : IsBlank after

-- ---- the values that some text spells

abbrev pub IsOneWritable : ValueView → Type 0
IsOneWritable (one n) = IsWritableInteger n
IsOneWritable (several numbers) = ⊥

pub record IsWritablePage (v : NumericView) : Type 0 where
  pub number : IsOneWritable v.value
  pub prefix : IsWritableAffix is_page_affix v.prefix
  pub suffix : IsWritableAffix is_page_affix v.suffix

abbrev pub IsWritableItem : PartView → Type 0
IsWritableItem ampersand = ⊥
IsWritableItem comma = ⊥
IsWritableItem (escaped v w) = ⊥
IsWritableItem (single v) = IsWritablePage v
IsWritableItem (range v w) = IsWritablePage v × IsWritablePage w

abbrev pub IsSeparator : PartView → Type 0
IsSeparator ampersand = ⊤
IsSeparator comma = ⊤
IsSeparator (escaped v w) = ⊥
IsSeparator (single v) = ⊥
IsSeparator (range v w) = ⊥

-- writable items with a separator between each two
abbrev pub AreWritable : List PartView → Type 0
AreWritable [] = ⊥
AreWritable (p ∷ []) = IsWritableItem p
AreWritable (p ∷ s ∷ []) = ⊥
AreWritable (p ∷ s ∷ q ∷ more) = IsWritableItem p × IsSeparator s × AreWritable (q ∷ more)
