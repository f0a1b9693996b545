-- The answers of the built-in entry to number variables (CSL 1.0.2, Appendix IV, Number Variables).
-- A text of a serial number is a number if its characters spell one, else it stays a text.
-- - Chapter number: the own chapter; else the own volume of a work of type Anthos in an anthology,
--   of an article in proceedings, or of any work in a work of reference or a book. Number: the own
--   serial number named `serial`, else a chapter's own chapter.
-- - Volume: the container's, else the own. Collection number: the collection's volume. Part number:
--   the own volume of a work in an article, a blog, a book or a law.
-- - Edition, issue: the first along the work and its parents. Printing number: `printing` in the
--   first set of serial numbers along them. Version: the own `version` of a repository.
-- - Number of pages, number of volumes: the own totals. First page: the first of the own pages, if
--   they were parsed.
-- - Section, supplement number: none. Citation number, first reference note number, locator: none,
--   because the citation has them.
-- - Page: the own pages, or their text if they were not parsed (`pages_of`).
use Rattle.std.specs.Prelude.{ℕ, List, Option, None, codes, option_map, option_and_then, if◌then◌else◌}
use Rattle.std.specs.Option.{option_or}
use Rattle.csl_elements.specs.declared.taxonomy.NumberVariable.{NumberVariable}
use Rattle.csl_elements.specs.declared.taxonomy.NumberVariable.TheVariants.{ChapterNumber, CitationNumber, CollectionNumber, Edition, FirstReferenceNoteNumber, Issue, Locator, Number, NumberOfPages, NumberOfVolumes, PageFirst, PartNumber, PrintingNumber, Section, SupplementNumber, Version, Volume}
use Rattle.lit_model.specs.declared.entry.Entry.{Entry, out-Entry}
use Rattle.lit_model.specs.declared.entry_type.EntryType.TheVariants.{Chapter, Repository}
use Rattle.lit_model.specs.declared.maybe_typed.MaybeTyped.{MaybeTyped}
use Rattle.lit_model.specs.declared.maybe_typed.MaybeTyped.TheVariants.{Typed, String}
use Rattle.lit_model.specs.declared.numeric.Numeric.{Numeric}
use Rattle.lit_model.specs.declared.page.PageRanges.{PageRanges}
use Rattle.lit_model.specs.Entry.{preorder, own_serial}
use Rattle.csl_common.specs.Lists.{first_some}
use Rattle.lit_model.specs.MaybeTyped.{MaybeView, typed, maybe_view}
use Rattle.lit_model.specs.Numeric.{NumericView, numeric_view}
use Rattle.lit_model.specs.Page.{pages_view, first_page, PartView}
use Rattle.lit_model.specs.Select.{same_type, bound_select, chapter, part, container_of, collection_of}
use Rattle.lit_model.specs.Source.{serial}
use Rattle.csl_elements.specs.declared.taxonomy.PageVariable.{PageVariable}
use Rattle.csl_elements.specs.declared.taxonomy.PageVariable.TheVariants.{Page}
use Rattle.csl_entry.specs.Answers.{numeric_or_text}

-- a number that a work holds, or its text
abbrev pub number_answer : Option (MaybeTyped Numeric) → Option (MaybeView NumericView)
number_answer o = option_map (maybe_view numeric_view) o

-- a number of volumes or pages
abbrev pub numeric_answer : Option Numeric → Option (MaybeView NumericView)
numeric_answer o = option_map (λ n. typed (numeric_view n)) o

-- a text of a serial number: a number if it spells one, else the text
abbrev pub serial_answer : Option (List ℕ) → Option (MaybeView NumericView)
serial_answer o = option_map numeric_or_text o

abbrev volume_in : Entry → Option (MaybeTyped Numeric)
volume_in e = (out-Entry e).volume

-- the own chapter, or else the own volume if that numbers a chapter
abbrev pub chapter_number : Entry → Option (MaybeTyped Numeric)
chapter_number e = option_or (out-Entry e).chapter (option_and_then volume_in (bound_select chapter e))

-- the volume of the collection
abbrev pub collection_number : Entry → Option (MaybeTyped Numeric)
collection_number e = option_and_then volume_in (collection_of e)

-- the own serial number named `serial`, or else a chapter's own chapter
abbrev pub own_number : Entry → Option (MaybeView NumericView)
own_number e = option_or (serial_answer (own_serial (codes "serial") e)) (if same_type (out-Entry e).entry_type Chapter then number_answer (out-Entry e).chapter else None)

abbrev first_of : MaybeTyped PageRanges → Option NumericView
first_of (Typed pages) = first_page (pages_view pages)
first_of (String text) = None

-- the first of the own pages, if they were parsed
abbrev pub first_page_of : Entry → Option NumericView
first_page_of e = option_and_then first_of (out-Entry e).page_range

-- the own volume, if it numbers a part
abbrev pub part_number : Entry → Option (MaybeTyped Numeric)
part_number e = option_and_then volume_in (bound_select part e)

-- the number named `printing` in the first set of serial numbers along the work and its parents
abbrev pub printing_number : Entry → Option (List ℕ)
printing_number e = option_and_then (serial (codes "printing")) (first_some (λ x. (out-Entry x).serial_number) (preorder e))

-- the version of a repository
abbrev pub version_number : Entry → Option (List ℕ)
version_number e = if same_type (out-Entry e).entry_type Repository then own_serial (codes "version") e else None

-- the volume of the container, or else the own volume
abbrev pub volume_number : Entry → Option (MaybeTyped Numeric)
volume_number e = option_or (option_and_then volume_in (container_of e)) (volume_in e)

abbrev pub number_of : Entry → NumberVariable → Option (MaybeView NumericView)
number_of e ChapterNumber = number_answer (chapter_number e)
number_of e CitationNumber = None
number_of e CollectionNumber = number_answer (collection_number e)
number_of e Edition = number_answer (first_some (λ x. (out-Entry x).edition) (preorder e))
number_of e FirstReferenceNoteNumber = None
number_of e Issue = number_answer (first_some (λ x. (out-Entry x).issue) (preorder e))
number_of e Locator = None
number_of e Number = own_number e
number_of e NumberOfPages = numeric_answer (out-Entry e).page_total
number_of e NumberOfVolumes = numeric_answer (out-Entry e).volume_total
number_of e PageFirst = option_map typed (first_page_of e)
number_of e PartNumber = number_answer (part_number e)
number_of e PrintingNumber = serial_answer (printing_number e)
number_of e Section = None
number_of e SupplementNumber = None
number_of e Version = serial_answer (version_number e)
number_of e Volume = number_answer (volume_number e)

-- the own pages of the work
abbrev pub pages_of : Entry → PageVariable → Option (MaybeView (List PartView))
pages_of e Page = option_map (maybe_view pages_view) (out-Entry e).page_range
