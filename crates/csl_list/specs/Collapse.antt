-- Cites in a row (CSL 1.0.2, Cite Grouping; Cite Collapsing). A *link* says how a cite goes on from
-- the one before it. It may leave out names, a year, or all that stands inside a range of three cites
-- or more. The links of a cite and of its neighbours give the text before it and its printed part.
use Rattle.std.specs.Prelude.{◌-◌, ◌+◌, ◌==◌, ◌&&◌, ◌||◌, ◌∷◌, ℕ, Bool, true, false, not, List, [], Option, Some, None, codes, get_or, is_none, is_some, string_bytes, String, if◌then◌else◌}
use Rattle.std.specs.declared.alloc.Global.{Global}
use Rattle.csl_entry.specs.Numbers.{citation_number}
use Rattle.csl_list.specs.declared.citation.PositionedCite.{PositionedCite}
use Rattle.csl_list.specs.declared.collapse.CiteLink.{CiteLink}
use Rattle.csl_list.specs.declared.collapse.CiteLink.TheVariants.{Apart, Grouped, SameNames, SameYear, NextSuffix, NextNumber}
use Rattle.csl_list.specs.declared.collapse.CitePart.{CitePart}
use Rattle.csl_list.specs.declared.collapse.CitePart.TheVariants as parts
use Rattle.csl_list.specs.declared.collapse.Delimiter.{Delimiter}
use Rattle.csl_list.specs.declared.collapse.Delimiter.TheVariants as delimiters
use Rattle.csl_list.specs.declared.collapse.Joint.{Joint}
use Rattle.csl_list.specs.declared.identity.Identity.{Identity}
use Rattle.csl_list.specs.declared.options.CitationOptions.{CitationOptions}
use Rattle.csl_list.specs.declared.options.Collapse.{Collapse}
use Rattle.csl_list.specs.declared.options.Collapse.TheVariants as collapses
use Rattle.csl_list.specs.declared.request.CitationItem.{CitationItem}

-- cites of the same names stand together
abbrev pub is_grouping_by : Option Collapse → Option (String Global) → Bool
is_grouping_by None delimiter = is_some delimiter
is_grouping_by (Some collapses.CitationNumber) delimiter = false
is_grouping_by (Some collapses.Year) delimiter = true
is_grouping_by (Some collapses.YearSuffix) delimiter = true
is_grouping_by (Some collapses.YearSuffixRanged) delimiter = true

abbrev pub is_grouping : CitationOptions → Bool
is_grouping options = is_grouping_by options.collapse options.cite_group_delimiter

-- both cites are printed as the style has them, and no text of the author is between them
abbrev pub are_joined : CitationItem → CitationItem → Bool
are_joined before item = is_none before.purpose && (is_none before.suffix && (is_none item.purpose && is_none item.prefix))

abbrev pub have_no_locators : CitationItem → CitationItem → Bool
have_no_locators before item = is_none before.locator && is_none item.locator

abbrev pub have_same_names : Option ℕ → Option ℕ → Bool
have_same_names (Some one) (Some other) = one == other
have_same_names (Some one) None = false
have_same_names None other = false

-- a number follows another one
abbrev pub is_next : ℕ → ℕ → Bool
is_next one other = (other - one) == 1

-- two suffixes of one year
abbrev pub link_of_suffixes : Bool → ℕ → ℕ → CiteLink
link_of_suffixes is_ranged one other = if is_ranged && is_next one other then NextSuffix else SameYear

abbrev pub link_of_years : Bool → Option ℕ → Option ℕ → Bool → CiteLink
link_of_years is_ranged (Some one) (Some other) same = if same then link_of_suffixes is_ranged one other else SameNames
link_of_years is_ranged (Some one) None same = SameNames
link_of_years is_ranged None other same = SameNames

-- Works have one year if their cites differ in the suffix alone.
abbrev pub suffix_link : Bool → Identity → Identity → CiteLink
suffix_link is_ranged before identity = link_of_years is_ranged before.year_suffix identity.year_suffix (before.likeness.cite == identity.likeness.cite)

-- a cite after one of the same names
abbrev pub names_link : Option Collapse → Bool → Identity → Identity → CiteLink
names_link None has_locators before identity = Grouped
names_link (Some collapses.CitationNumber) has_locators before identity = Grouped
names_link (Some collapses.Year) has_locators before identity = SameNames
names_link (Some collapses.YearSuffix) has_locators before identity = if has_locators then SameNames else suffix_link false before identity
names_link (Some collapses.YearSuffixRanged) has_locators before identity = if has_locators then SameNames else suffix_link true before identity

abbrev pub number_link : Option Collapse → Bool → Identity → Identity → CiteLink
number_link collapse has_locators before identity = if is_some collapse && (not has_locators && is_next (citation_number before.number) (citation_number identity.number)) then NextNumber else Apart

abbrev pub grouping_link : Option Collapse → Bool → Identity → Identity → CiteLink
grouping_link collapse has_locators before identity = if have_same_names before.likeness.names identity.likeness.names then names_link collapse has_locators before identity else Apart

abbrev pub joined_link : CitationOptions → Bool → Identity → Identity → CiteLink
joined_link options has_locators before identity = if is_grouping options then grouping_link options.collapse has_locators before identity else number_link options.collapse has_locators before identity

-- a cite after another one
abbrev pub link_between : {T : Type 0} → CitationOptions → PositionedCite T → PositionedCite T → CiteLink
link_between options before cite =
    if are_joined before.item.now cite.item.now then joined_link options (not (have_no_locators before.item.now cite.item.now)) before.identity cite.identity else Apart

abbrev pub is_ranged : CiteLink → Bool
is_ranged Apart = false
is_ranged Grouped = false
is_ranged SameNames = false
is_ranged SameYear = false
is_ranged NextSuffix = true
is_ranged NextNumber = true

abbrev pub unranged : CiteLink → CiteLink
unranged Apart = Apart
unranged Grouped = Grouped
unranged SameNames = SameNames
unranged SameYear = SameYear
unranged NextSuffix = SameYear
unranged NextNumber = Apart

-- two cites alone are no range
abbrev pub link_in_range : CiteLink → CiteLink → CiteLink → CiteLink
link_in_range before link after = if is_ranged before || is_ranged after then link else unranged link

abbrev pub long_at : List CiteLink → ℕ → CiteLink
long_at links i = link_in_range (get_or links (i - 1) Apart) (get_or links i Apart) (get_or links (i + 1) Apart)

-- the text after the last cite of a group
abbrev pub delimiter_after : CiteLink → Delimiter
delimiter_after Apart = delimiters.Cites
delimiter_after Grouped = delimiters.Cites
delimiter_after SameNames = delimiters.AfterCollapse
delimiter_after SameYear = delimiters.AfterCollapse
delimiter_after NextSuffix = delimiters.AfterCollapse
delimiter_after NextNumber = delimiters.AfterCollapse

-- the text before a year of a group
abbrev pub delimiter_of_year : CiteLink → Delimiter
delimiter_of_year Apart = delimiters.Group
delimiter_of_year Grouped = delimiters.Group
delimiter_of_year SameNames = delimiters.Group
delimiter_of_year SameYear = delimiters.AfterCollapse
delimiter_of_year NextSuffix = delimiters.AfterCollapse
delimiter_of_year NextNumber = delimiters.Group

-- inside a range nothing is printed
abbrev pub joint_in_range : CiteLink → CitePart → Joint
joint_in_range after part = record {
  delimiter = delimiters.Range;
  part = if is_ranged after then parts.Nothing else part;
}

abbrev pub joint : Delimiter → CitePart → Joint
joint before printed = record { delimiter = before; part = printed }

abbrev pub joint_of : CiteLink → CiteLink → CiteLink → Joint
joint_of before Apart after = joint (delimiter_after before) parts.Whole
joint_of before Grouped after = joint delimiters.Group parts.Whole
joint_of before SameNames after = joint (delimiter_of_year before) parts.WithoutNames
joint_of before SameYear after = joint delimiters.YearSuffixes parts.YearSuffix
joint_of before NextSuffix after = joint_in_range after parts.YearSuffix
joint_of before NextNumber after = joint_in_range after parts.Whole

abbrev pub joint_at : List CiteLink → ℕ → Joint
joint_at links i = joint_of (get_or links (i - 1) Apart) (get_or links i Apart) (get_or links (i + 1) Apart)

-- in UTF-8
abbrev pub en_dash : List ℕ
en_dash = 0xE2 ∷ 0x80 ∷ 0x93 ∷ []

abbrev pub text_or : Option (String Global) → List ℕ → List ℕ
text_or None other = other
text_or (Some own) other = string_bytes own

abbrev pub delimiter_text : CitationOptions → Delimiter → List ℕ
delimiter_text options delimiters.Cites = string_bytes options.delimiter
delimiter_text options delimiters.Group = text_or options.cite_group_delimiter (codes ", ")
delimiter_text options delimiters.YearSuffixes = text_or options.year_suffix_delimiter (string_bytes options.delimiter)
delimiter_text options delimiters.AfterCollapse = text_or options.after_collapse_delimiter (string_bytes options.delimiter)
delimiter_text options delimiters.Range = en_dash
