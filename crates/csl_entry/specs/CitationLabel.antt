-- The label of an entry, such as `Kwa14`, is the label of its whole (`full_of`): letters of the
-- creators, then the year (CSL 1.0.2, Appendix IV, `citation-label`). A letter is an extended
-- grapheme cluster (UAX #29).
-- - One creator gives the first n letters of the name, two or three give the first letter of each
--   name, and more give the first n letters of the first name and `+`. Without creators, the label
--   has the first n letters of the organization, else of the title, else of the alphabetic
--   characters of the key. By default n is 3.
-- - The year is that of the first date along the work and its parents, else that of the visit to
--   the first address along them. The label has the year's last two digits without the sign, plus
--   one if the year is 0 or less, in at least two digits. Without a date there is no year.
-- So a label depends only on the creators, their stand-in and a date (`LabelParts`). Entries with
-- the same `works` have the same label (`LabelIsShown`).
use Rattle.std.specs.Prelude.{◌≡◌, ℕ, true, zero, suc, pos, negsuc, ℤ, ◌+◌, ◌%◌, List, [], ◌∷◌, ◌++◌, Option, Some, None, option_map, take, filter, chars, encode_utf8_all, codes, nat_lt, if◌then◌else◌}
use Rattle.std.specs.Fmt.{decimal}
use Rattle.std.specs.List.{concat}
use Rattle.std.specs.Option.{option_or}
use Rattle.unicode.specs.Binary.{is_alphabetic}
use Rattle.unicode_segmentation.specs.Grapheme.{graphemes}
use Rattle.lit_model.specs.declared.date.Date.{Date}
use Rattle.lit_model.specs.declared.entry.Entry.{Entry}
use Rattle.lit_model.specs.Chunks.{chunks_text}
use Rattle.lit_model.specs.Date.{DateView, date_view}
use Rattle.lit_model.specs.Person.{PersonView}
use Rattle.lit_model.specs.Select.{full_of}
use Rattle.lit_model.specs.Text.{FormatStringView}
use Rattle.lit_model.specs.Work.{Own, own_of, works}
use Rattle.csl_entry.specs.Creators.{creators_of}
use Rattle.csl_entry.specs.EntryDate.{issue_date, visit_date}

-- the first n letters of a text; all of them if it has fewer
abbrev pub first_letters : ℕ → List ℕ → List ℕ
first_letters n text = concat (take n (graphemes true text))

-- one creator: the first n letters of the name; two or three: the first letter of each; more: the
-- first n letters of the first name, and `+`; none: the first n letters of another text
abbrev pub creators_part : ℕ → List ℕ → List PersonView → List ℕ
creators_part n other [] = first_letters n other
creators_part n other (p ∷ []) = first_letters n p.name
creators_part n other (p ∷ q ∷ []) = first_letters 1 p.name ++ first_letters 1 q.name
creators_part n other (p ∷ q ∷ r ∷ []) = first_letters 1 p.name ++ first_letters 1 q.name ++ first_letters 1 r.name
creators_part n other (p ∷ q ∷ r ∷ s ∷ more) = first_letters n p.name ++ codes "+"

-- the alphabetic characters of a key (Unicode Alphabetic)
abbrev pub alphabetic_part : List ℕ → List ℕ
alphabetic_part key = encode_utf8_all (filter is_alphabetic (chars key))

-- the stand-in for creators: the organization, else the title, both in full; else the alphabetic
-- characters of the key
abbrev pub stand_in_of : Option FormatStringView → Option FormatStringView → List ℕ → List ℕ
stand_in_of (Some organization) title key = chunks_text organization.value
stand_in_of None (Some title) key = chunks_text title.value
stand_in_of None None key = alphabetic_part key

abbrev pub stand_in : Own → List ℕ
stand_in own = stand_in_of own.organization own.title own.key

-- the date of a label: the issue date, else the visit date of the first address
abbrev pub label_date : Entry → Option Date
label_date e = option_or (issue_date e) (visit_date e)

-- the last two digits of a year, without its sign; one more if the year is 0 or less
abbrev pub year_number : ℤ → ℕ
year_number (pos zero) = 1
year_number (pos (suc n)) = suc n % 100
year_number (negsuc n) = suc n % 100 + 1

-- a number with two digits or more
abbrev pub two_digits : ℕ → List ℕ
two_digits n = if nat_lt n 10 then codes "0" ++ decimal n else decimal n

-- without a date there is no year
abbrev pub year_part : Option DateView → List ℕ
year_part None = []
year_part (Some date) = two_digits (year_number date.year)

-- the parts on which the label of a work depends: its creators, their stand-in, and its date
pub record LabelParts : Type 0 where
  pub creators : List PersonView
  pub stand_in : List ℕ
  pub date : Option DateView

abbrev pub label_parts : Entry → LabelParts
label_parts e = record { creators = creators_of e; stand_in = stand_in (own_of e); date = option_map date_view (label_date e) }

-- the creators, then the year
abbrev pub label_from : ℕ → LabelParts → List ℕ
label_from n parts = creators_part n parts.stand_in parts.creators ++ year_part parts.date

-- the label of an entry is the label of its whole
abbrev pub label : ℕ → Entry → List ℕ
label n e = label_from n (label_parts (full_of e))

-- entries with the same `works` have the same label
abbrev pub LabelIsShown : ℕ → Entry → Type 0
LabelIsShown n e = (other : Entry) → works e ≡ works other → label n e ≡ label n other
