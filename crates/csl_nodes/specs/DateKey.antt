-- Sort keys of dates (CSL 1.0.2, Sorting): texts whose bytes are in the order of time. A year is
-- `P` and its number in nine places. Before year 0 it is `N` and 2147483647 plus the year in nine
-- places, the sign included. The year suffix follows the year. A month and a day are two digits, or
-- `00` if there is none.
-- A key has its parts (`keyed_parts`) in the order year, month, day. With a form, they are those
-- that the node's `date-parts` includes, or all if it is not set, whatever the locale has.
-- Otherwise they are all for a variable, and the listed parts for a macro.
-- *Time* compares year, month and day, with an absent one first.
use Rattle.std.specs.Prelude.{◌≡◌, ℕ, ◌+◌, suc, Bool, true, false, List, [], ◌∷◌, ◌++◌, ℤ, pos, negsuc, ◌+ℤ◌, neg_ℤ, ◌≤ℤ◌, Option, Some, None, unwrap_or, codes, decimal}
use Rattle.std.specs.Cmp.Lexicographic.{slice_cmp}
use Rattle.std.specs.List.{list_any}
use Rattle.std.specs.Option.{option_cmp}
use Rattle.std.specs.declared.cmp.Ordering.{Ordering}
use Rattle.std.specs.Ordering.{nat_cmp, int_cmp, ordering_then}
use denote.Enum.Bare.{sameb}
use Rattle.lit_model.specs.Characters.{hyphen_char}
use Rattle.lit_model.specs.declared.date.Date.{Date}
use Rattle.lit_model.specs.Date.{DateView, date_view}
use Rattle.lit_model.specs.NumericWrite.{with_zeros}
use Rattle.csl_elements.specs.contracts.date.DatePartName.{the_type}
use Rattle.csl_elements.specs.declared.date.DateForm.{DateForm}
use Rattle.csl_elements.specs.declared.date.DatePartName.{DatePartName}
use Rattle.csl_elements.specs.declared.date.DatePartName.TheVariants.{Day, Month, Year}
use Rattle.csl_elements.specs.declared.date.DateParts.TheVariants as upto
use Rattle.csl_elements.specs.Node.{DatePartNode, DateNode}
use Rattle.csl_entry.specs.declared.citation.cite.Sorting.{Sorting}
use Rattle.csl_entry.specs.declared.citation.cite.Sorting.TheVariants as sorting
use Rattle.csl_nodes.specs.DateText.{two_digits, names_part}

-- ---- numbers and years

-- at least nine places, the sign included
abbrev pub nine_places : ℤ → List ℕ
nine_places (pos n) = with_zeros 9 (decimal n)
nine_places (negsuc n) = hyphen_char ∷ with_zeros 8 (decimal (suc n))

-- The years before year 0 come before all others. They are counted from far enough back that a
-- later year has a larger number.
abbrev pub year_key : ℤ → List ℕ
year_key (pos n) = codes "P" ++ nine_places (pos n)
year_key (negsuc n) = codes "N" ++ nine_places (pos 2147483647 +ℤ negsuc n)

-- a month or a day; none is `00`, which comes before all of them
abbrev pub place_key : Option ℕ → List ℕ
place_key None = codes "00"
place_key (Some n) = two_digits (n + 1)

-- ---- keys

-- one of the parts has that name
abbrev pub lists_part : List DatePartNode → DatePartName → Bool
lists_part ps name = list_any (λ p. sameb the_type p.name name) ps

-- whether the key of a node with this form has the part
abbrev keyed_parts : Option DateForm → Sorting → DateNode → DatePartName → Bool
keyed_parts (Some form) for n part = names_part (unwrap_or n.parts upto.YearMonthDay) part
keyed_parts None sorting.Variable n part = true
keyed_parts None sorting.Macro n part = lists_part n.date_part part

abbrev pub is_keyed : DateNode → Sorting → DatePartName → Bool
is_keyed n for part = keyed_parts n.form for n part

abbrev pub key_if : Bool → List ℕ → List ℕ
key_if true bs = bs
key_if false bs = []

-- the year with its suffix, then the month, then the day
abbrev pub key_of : (DatePartName → Bool) → List ℕ → DateView → List ℕ
key_of has suffix d =
    key_if (has Year) (year_key d.year ++ suffix) ++ (key_if (has Month) (place_key d.month) ++ key_if (has Day) (place_key d.day))

unfoldable pub sort_key : DateNode → Sorting → List ℕ → DateView → List ℕ
sort_key n for suffix d = key_of (is_keyed n for) suffix d

-- ---- the order of time

-- the key of all parts, without a suffix
abbrev pub full_key : DateView → List ℕ
full_key d = key_of (λ part. true) [] d

-- the years whose keys all have one length before year 0, and all have one from year 0 on
abbrev pub HasKeyYear : ℤ → Type 0
HasKeyYear year = (neg_ℤ (pos 1147483647) ≤ℤ year) × (year ≤ℤ pos 999999999)

-- the order of dates by year, month and day, with an absent one first
abbrev pub time_order : DateView → DateView → Ordering
time_order a b = ordering_then (int_cmp a.year b.year) (ordering_then (option_cmp nat_cmp a.month b.month) (option_cmp nat_cmp a.day b.day))

-- The key of a date compares by bytes with the full key of any other date as the two dates compare
-- in time, if both years are in the range of `HasKeyYear`.
abbrev pub SortsByTime : List ℕ → Date → Type 0
SortsByTime key d = (other : Date) → HasKeyYear d.year → HasKeyYear other.year → slice_cmp nat_cmp key (full_key (date_view other)) ≡ time_order (date_view d) (date_view other)
