-- Pages in the format of a style (CSL 1.0.2, Terms, `page-range-delimiter`; Appendix V, Page Range
-- Formats): their parts in order, with `, ` and ` & ` for separators. Between the two ends of a
-- range is the style's term for it, else an en dash. If both ends are ASCII digits alone, the
-- second is completed from the front of the first if it is shorter. Then, if both are equally long,
-- `minimal` drops the front that the second repeats of the first, but never the last digit of the
-- second; `minimal-two` never drops the second's last two. An escaped range is only completed. Any
-- other end stays unchanged, also an empty one.
use Rattle.std.specs.Prelude.{ℕ, ◌-◌, min, Bool, false, not, ◌&&◌, ◌==◌, nat_eq, List, [], ◌∷◌, ◌++◌, length, take, drop, map, chars, encode_utf8_all, Option, Some, None, unwrap_or, codes, if◌then◌else◌}
use Rattle.std.specs.Char.{is_ascii_digit}
use Rattle.std.specs.List.{list_all, flat_map, common_prefix_len}
use Rattle.lit_model.specs.Characters.{hyphen_char, en_dash_char}
use Rattle.lit_model.specs.NumericWrite.{numeric_text}
use Rattle.lit_model.specs.Page.{PartView, ampersand, comma, escaped, single, range}
use Rattle.csl_style.specs.declared.style.settings.PageRangeFormat.{PageRangeFormat}
use Rattle.csl_style.specs.declared.style.settings.PageRangeFormat.TheVariants.{Expanded, Minimal, MinimalTwo, Chicago15, Chicago16}
use Rattle.csl_elements.specs.declared.term.OtherTerm.TheVariants.{PageRangeDelimiter}
use Rattle.csl_elements.specs.declared.term.Term.TheVariants.{Other}
use Rattle.csl_elements.specs.declared.term.TermForm.TheVariants.{Long}
use Rattle.csl_style.specs.Style.{StyleParts}
use Rattle.csl_context.specs.RenderInput.{term_in}

-- the bytes of an en dash
abbrev pub en_dash : List ℕ
en_dash = 0xE2 ∷ 0x80 ∷ 0x93 ∷ []

-- ---- the end of a range

-- at least one byte, and each is an ASCII digit
abbrev pub is_digits : List ℕ → Bool
is_digits bs = not (length bs == 0) && list_all is_ascii_digit bs

-- an end; if it is shorter than the start, the start's front completes it
abbrev pub completed_end : List ℕ → List ℕ → List ℕ
completed_end from to = take (length from - length to) from ++ to

-- an end without the front that repeats the start's; its last `kept` digits always stay
abbrev pub abbreviated_end : ℕ → List ℕ → List ℕ → List ℕ
abbreviated_end kept from to = drop (min (common_prefix_len nat_eq from to) (length to - kept)) to

-- The least number of digits that a format keeps of an end, if it drops repeated ones. No style has
-- one of the last two formats.
abbrev pub kept_digits : Option PageRangeFormat → Option ℕ
kept_digits None = None
kept_digits (Some Expanded) = None
kept_digits (Some Minimal) = Some 1
kept_digits (Some MinimalTwo) = Some 2
kept_digits (Some Chicago15) = None
kept_digits (Some Chicago16) = None

-- an end that is as long as the start is shortened, if a number of kept digits is given
abbrev pub shortened_to : Option ℕ → List ℕ → List ℕ → List ℕ
shortened_to None from to = to
shortened_to (Some kept) from to = if length from == length to then abbreviated_end kept from to else to

-- the second end of a range: completed and then shortened if both are digits, else unchanged
abbrev pub end_text : Option ℕ → List ℕ → List ℕ → List ℕ
end_text kept from to = if is_digits from && is_digits to then shortened_to kept from (completed_end from to) else to

-- ---- pages

abbrev pub range_text : Option ℕ → List ℕ → List ℕ → List ℕ → List ℕ
range_text kept delimiter from to = from ++ (delimiter ++ end_text kept from to)

-- a separator with its spaces, a page, or a range; an escaped range is never shortened
abbrev pub part_text : Option ℕ → List ℕ → PartView → List ℕ
part_text kept delimiter ampersand = codes " & "
part_text kept delimiter comma = codes ", "
part_text kept delimiter (escaped from to) = range_text None delimiter (numeric_text from) (numeric_text to)
part_text kept delimiter (single page) = numeric_text page
part_text kept delimiter (range from to) = range_text kept delimiter (numeric_text from) (numeric_text to)

-- the parts in order
abbrev pub pages_in_format : Option PageRangeFormat → List ℕ → List PartView → List ℕ
pages_in_format format delimiter parts = flat_map (part_text (kept_digits format) delimiter) parts

-- the delimiter between the ends of a range: the style's term, else an en dash
abbrev pub page_delimiter : StyleParts → List ℕ
page_delimiter style = unwrap_or (term_in style (Other PageRangeDelimiter) Long false) en_dash

-- pages in the format of the style
unfoldable pub pages_in_style : StyleParts → List PartView → List ℕ
pages_in_style style parts = pages_in_format style.settings.page_range_format (page_delimiter style) parts

-- ---- a text in place of pages

abbrev pub en_dash_of : ℕ → ℕ
en_dash_of c = if c == hyphen_char then en_dash_char else c

-- a text with an en dash for each hyphen
unfoldable pub with_dashes : List ℕ → List ℕ
with_dashes bs = encode_utf8_all (map en_dash_of (chars bs))
