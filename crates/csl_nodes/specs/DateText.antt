-- The text of a part of a date, before suffix and affixes (CSL 1.0.2, Date; Date-part; Localized
-- Date Formats; Ordinals; AD and BC; Seasons). Months and days count from 0 and print one higher;
-- year 0 is the year before year 1. A form that a part does not know counts as none. A year is
-- always written. A month or a day is written if the date-parts include it, and a month also if the
-- date has a season (`is_written`).
-- - *Day*: its number; with leading zeros, in at least two digits. As an ordinal, the style's
--   ordinal suffix follows, if there is one, in the gender of the month's term. If the first locale
--   limits ordinals to the first day, any other day is a plain number.
-- - *Month*: its term, long unless the short one is requested. It is a number if the style lacks
--   the term or the form is numeric; with leading zeros, in at least two digits. Without a month it
--   is the short term of the season, or nothing.
-- - *Year*: from 1000 on in full, or its last two digits in the short form. From 1 to 999 the AD
--   term follows it, else ` AD`. Earlier years count backwards from 1 at year 0, with the BC term,
--   else ` BC`.
use Rattle.std.specs.Prelude.{ℕ, ◌+◌, ◌%◌, suc, zero, Bool, true, false, not, ◌&&◌, ◌||◌, ◌==◌, nat_lt, List, [], ◌++◌, map, ℤ, pos, negsuc, Option, Some, None, is_some, unwrap_or, codes, decimal, if◌then◌else◌}
use Rattle.csl_common.specs.declared.season.Season.{Season}
use Rattle.csl_common.specs.declared.ordinal.GrammarGender.{GrammarGender}
use Rattle.lit_model.specs.Date.{DateView}
use Rattle.lit_model.specs.NumericWrite.{with_zeros}
use Rattle.csl_elements.specs.declared.date.DateAnyForm.{DateAnyForm}
use Rattle.csl_elements.specs.declared.date.DateAnyForm.TheVariants.{Numeric, NumericLeadingZeros, Ordinal, Long, Short}
use Rattle.csl_elements.specs.declared.date.DatePartName.{DatePartName}
use Rattle.csl_elements.specs.declared.date.DatePartName.TheVariants.{Day, Month, Year}
use Rattle.csl_elements.specs.declared.date.DateParts.{DateParts}
use Rattle.csl_elements.specs.declared.date.DateParts.TheVariants as upto
use Rattle.csl_elements.specs.declared.term.OtherTerm.{OtherTerm}
use Rattle.csl_elements.specs.declared.term.OtherTerm.TheVariants as other
use Rattle.csl_elements.specs.declared.term.Term.TheVariants as term
use Rattle.csl_elements.specs.declared.term.TermForm.{TermForm}
use Rattle.csl_elements.specs.declared.term.TermForm.TheVariants as term_form
use Rattle.csl_elements.specs.Locale.{ordinals_of}
use Rattle.csl_elements.specs.Ordinals.{ordinals}
use Rattle.csl_style.specs.Scopes.{are_day_ordinals_limited}
use Rattle.csl_style.specs.Style.{StyleParts}
use Rattle.csl_context.specs.RenderInput.{term_in, gender_in}

-- ---- which parts are written

abbrev pub names_part : DateParts → DatePartName → Bool
names_part upto.YearMonthDay part = true
names_part upto.YearMonth Day = false
names_part upto.YearMonth Month = true
names_part upto.YearMonth Year = true
names_part upto.Year Day = false
names_part upto.Year Month = false
names_part upto.Year Year = true

-- the year always; a month also if the date has a season
abbrev pub is_written : DateParts → DateView → DatePartName → Bool
is_written parts d Day = names_part parts Day
is_written parts d Month = names_part parts Month || is_some d.season
is_written parts d Year = true

-- ---- words of the style

-- a term that names no variable, in the singular
abbrev pub word : StyleParts → OtherTerm → TermForm → Option (List ℕ)
word style t form = term_in style (term.Other t) form false

-- a number in at least two digits
abbrev pub two_digits : ℕ → List ℕ
two_digits n = with_zeros 2 (decimal n)

-- ---- years

-- the era after the years 1 to 999, and after those before year 1
abbrev pub ad_text : StyleParts → List ℕ
ad_text style = unwrap_or (word style other.Ad term_form.Long) (codes " AD")

abbrev pub bc_text : StyleParts → List ℕ
bc_text style = unwrap_or (word style other.Bc term_form.Long) (codes " BC")

-- only the short form shortens a year to its last two digits
abbrev pub is_short : Option DateAnyForm → Bool
is_short None = false
is_short (Some Numeric) = false
is_short (Some NumericLeadingZeros) = false
is_short (Some Ordinal) = false
is_short (Some Long) = false
is_short (Some Short) = true

-- a year from 1 on: before 1000 in full with its era, else in full or, if `short`, its last two
-- digits
abbrev pub common_year : Bool → List ℕ → ℕ → List ℕ
common_year short ad n = if nat_lt n 1000 then decimal n ++ ad else (if short then two_digits (n % 100) else decimal n)

-- the years before year 1 are counted backwards: year 0 is the first
abbrev pub year_in_eras : Bool → List ℕ → List ℕ → ℤ → List ℕ
year_in_eras short ad bc (pos zero) = decimal 1 ++ bc
year_in_eras short ad bc (pos (suc n)) = common_year short ad (suc n)
year_in_eras short ad bc (negsuc n) = decimal (n + 2) ++ bc

abbrev pub year_text : StyleParts → Option DateAnyForm → ℤ → List ℕ
year_text style form year = year_in_eras (is_short form) (ad_text style) (bc_text style) year

-- ---- months and seasons

-- the term of the month, else its number
abbrev pub month_named : StyleParts → TermForm → ℕ → List ℕ
month_named style form n = unwrap_or (word style (other.Month n) form) (decimal (n + 1))

-- a month in a form; the long term for a form that a month does not know, and for none
abbrev pub month_text : StyleParts → Option DateAnyForm → ℕ → List ℕ
month_text style None n = month_named style term_form.Long n
month_text style (Some Numeric) n = decimal (n + 1)
month_text style (Some NumericLeadingZeros) n = two_digits (n + 1)
month_text style (Some Ordinal) n = month_named style term_form.Long n
month_text style (Some Long) n = month_named style term_form.Long n
month_text style (Some Short) n = month_named style term_form.Short n

-- the short term of a season, if the style has one
abbrev pub season_text : StyleParts → Option Season → List ℕ
season_text style None = []
season_text style (Some s) = unwrap_or (word style (other.Season s) term_form.Short) []

-- a date without a month prints its season instead
abbrev pub month_or_season : StyleParts → Option DateAnyForm → Option ℕ → Option Season → List ℕ
month_or_season style form None season = season_text style season
month_or_season style form (Some n) season = month_text style form n

-- ---- days

-- the gender of a month's term
abbrev pub month_gender : StyleParts → Option ℕ → Option GrammarGender
month_gender style None = None
month_gender style (Some n) = gender_in style (term.Other (other.Month n))

-- the suffix of a number's ordinal in a gender, if the style has one
abbrev pub ordinal_suffix : StyleParts → Option GrammarGender → ℕ → List ℕ
ordinal_suffix style gender n = unwrap_or (ordinals (map ordinals_of style.locales) (pos n) gender) []

-- the ordinal agrees with the month; a locale may limit ordinals to the first day
abbrev pub ordinal_day : StyleParts → Option ℕ → ℕ → List ℕ
ordinal_day style month n =
    if are_day_ordinals_limited style.locales && not (n == 0) then decimal (n + 1)
    else decimal (n + 1) ++ ordinal_suffix style (month_gender style month) (n + 1)

-- a day in a form; its number for a form that a day does not know, and for none
abbrev pub day_text : StyleParts → Option DateAnyForm → Option ℕ → ℕ → List ℕ
day_text style None month n = decimal (n + 1)
day_text style (Some Numeric) month n = decimal (n + 1)
day_text style (Some NumericLeadingZeros) month n = two_digits (n + 1)
day_text style (Some Ordinal) month n = ordinal_day style month n
day_text style (Some Long) month n = decimal (n + 1)
day_text style (Some Short) month n = decimal (n + 1)

abbrev pub optional_day : StyleParts → Option DateAnyForm → Option ℕ → Option ℕ → List ℕ
optional_day style form month None = []
optional_day style form month (Some n) = day_text style form month n

-- ---- a part

-- the text of a part; nothing if the date lacks it, and the season for a missing month
unfoldable pub part_text : StyleParts → DatePartName → Option DateAnyForm → DateView → List ℕ
part_text style Day form d = optional_day style form d.month d.day
part_text style Month form d = month_or_season style form d.month d.season
part_text style Year form d = year_text style form d.year
