-- The answers of the built-in entry to standard variables (CSL 1.0.2, Appendix IV, Standard
-- Variables).
-- - Own texts: title, note, call number, archive location, organization (authority), running time
--   (dimensions).
-- - The first along the entry and its parents: abstract, note (annote), archive, genre, publisher
--   with its place, language, address.
-- - Own fields of other works: titles of container and collection; title and place of the event;
--   title, publisher and its place of the original; the title of the volume; the title of the first
--   direct parent that is a repository (source).
-- - A text is in the requested form. Title-short and container-title-short are always in the short
--   form, which is the whole text if there is no short form.
-- - One verbatim chunk: the key, DOI, ISBN, ISSN, PMCID and PMID (own serial numbers), the address.
--   One normal chunk: the label of three letters; the language, then `-` and the region, if any.
-- - None: archive-collection, archive-place, division, jurisdiction, keyword, license, medium,
--   part-title, references, reviewed-genre, reviewed-title, scale, status, year-suffix.
use Rattle.std.specs.Prelude.{ℕ, List, [], ◌∷◌, Option, Some, None, option_map, option_and_then, string_bytes, codes}
use Rattle.csl_elements.specs.declared.taxonomy.StandardVariable.{StandardVariable}
use Rattle.csl_elements.specs.declared.taxonomy.StandardVariable.TheVariants as var
use Rattle.lit_model.specs.declared.entry.Entry.{Entry, out-Entry}
use Rattle.lit_model.specs.declared.entry_type.EntryType.TheVariants.{Repository}
use Rattle.lit_model.specs.declared.source.LanguageIdentifier.{LanguageIdentifier}
use Rattle.lit_model.specs.declared.source.Publisher.{Publisher}
use Rattle.lit_model.specs.declared.source.QualifiedUrl.{QualifiedUrl}
use Rattle.lit_model.specs.declared.text.ChunkKind.TheVariants.{Normal, Verbatim}
use Rattle.lit_model.specs.declared.text.FormatString.{FormatString}
use Rattle.csl_common.specs.declared.form.LongShortForm.{LongShortForm}
use Rattle.csl_common.specs.declared.form.LongShortForm.TheVariants.{Short}
use Rattle.lit_model.specs.Entry.{preorder, own_serial}
use Rattle.csl_common.specs.Lists.{first_some}
use Rattle.lit_model.specs.Select.{ClauseView, parent_of, bound_select, container_of, collection_of, original, event, volume_title}
use Rattle.lit_model.specs.Source.{address_text, language_of}
use Rattle.lit_model.specs.Text.{Chunk, chunks, select}
use Rattle.csl_entry.specs.Answers.{one_chunk}
use Rattle.csl_entry.specs.CitationLabel.{label}
use Rattle.csl_entry.specs.Language.{language_text}

-- a text in the requested form
abbrev pub in_form : LongShortForm → Option FormatString → Option (List Chunk)
in_form form text = option_map (λ t. chunks (select form t)) text

-- a text as one chunk that no style changes
abbrev pub verbatim_chunk : Option (List ℕ) → Option (List Chunk)
verbatim_chunk text = option_map (one_chunk Verbatim) text

-- a language as one chunk
abbrev pub language_answer : Option LanguageIdentifier → Option (List Chunk)
language_answer language = option_map (λ l. one_chunk Normal (language_text (language_of l))) language

-- the text of an address
abbrev pub web_address : Option QualifiedUrl → Option (List ℕ)
web_address url = option_map (λ u. (address_text u).text) url

-- the name of a publisher
abbrev pub press_name : Option Publisher → Option FormatString
press_name press = option_and_then (λ p. p.name) press

-- the place of a publisher
abbrev pub press_place : Option Publisher → Option FormatString
press_place press = option_and_then (λ p. p.location) press

-- the first value along the entry and its parents, in preorder
abbrev pub from_self_or_parents : {X : Type 0} → (Entry → Option X) → Entry → Option X
from_self_or_parents own e = first_some own (preorder e)

-- an entry's own title
abbrev pub own_title : Entry → Option FormatString
own_title e = (out-Entry e).title

-- an entry's own place
abbrev pub own_location : Entry → Option FormatString
own_location e = (out-Entry e).location

-- an entry's own publisher
abbrev pub own_publisher : Entry → Option Publisher
own_publisher e = (out-Entry e).publisher

-- the first parent that is a repository
abbrev pub repository : List ClauseView
repository = parent_of [] (Repository ∷ []) ∷ []

-- the answer to each variable, in the requested form
abbrev pub standard_of : Entry → LongShortForm → StandardVariable → Option (List Chunk)
standard_of e form var.Abstract = in_form form (from_self_or_parents (λ x. (out-Entry x).abstract_) e)
standard_of e form var.Annote = in_form form (from_self_or_parents (λ x. (out-Entry x).note) e)
standard_of e form var.Archive = in_form form (from_self_or_parents (λ x. (out-Entry x).archive) e)
standard_of e form var.ArchiveCollection = None
standard_of e form var.ArchiveLocation = in_form form (out-Entry e).archive_location
standard_of e form var.ArchivePlace = None
standard_of e form var.Authority = in_form form (out-Entry e).organization
standard_of e form var.CallNumber = in_form form (out-Entry e).call_number
standard_of e form var.CitationKey = verbatim_chunk (Some (string_bytes (out-Entry e).key))
standard_of e form var.CitationLabel = Some (one_chunk Normal (label 3 e))
standard_of e form var.CollectionTitle = in_form form (option_and_then own_title (collection_of e))
standard_of e form var.ContainerTitle = in_form form (option_and_then own_title (container_of e))
standard_of e form var.ContainerTitleShort = in_form Short (option_and_then own_title (container_of e))
standard_of e form var.Dimensions = in_form form (out-Entry e).runtime
standard_of e form var.Division = None
standard_of e form var.DOI = verbatim_chunk (own_serial (codes "doi") e)
standard_of e form var.Event = in_form form (option_and_then own_title (bound_select event e))
standard_of e form var.EventTitle = in_form form (option_and_then own_title (bound_select event e))
standard_of e form var.EventPlace = in_form form (option_and_then own_location (bound_select event e))
standard_of e form var.Genre = in_form form (from_self_or_parents (λ x. (out-Entry x).genre) e)
standard_of e form var.ISBN = verbatim_chunk (own_serial (codes "isbn") e)
standard_of e form var.ISSN = verbatim_chunk (own_serial (codes "issn") e)
standard_of e form var.Jurisdiction = None
standard_of e form var.Keyword = None
standard_of e form var.Language = language_answer (from_self_or_parents (λ x. (out-Entry x).language) e)
standard_of e form var.License = None
standard_of e form var.Medium = None
standard_of e form var.Note = in_form form (out-Entry e).note
standard_of e form var.OriginalPublisher = in_form form (press_name (option_and_then own_publisher (bound_select original e)))
standard_of e form var.OriginalPublisherPlace = in_form form (press_place (option_and_then own_publisher (bound_select original e)))
standard_of e form var.OriginalTitle = in_form form (option_and_then own_title (bound_select original e))
standard_of e form var.PartTitle = None
standard_of e form var.PMCID = verbatim_chunk (own_serial (codes "pmcid") e)
standard_of e form var.PMID = verbatim_chunk (own_serial (codes "pmid") e)
standard_of e form var.Publisher = in_form form (press_name (from_self_or_parents own_publisher e))
standard_of e form var.PublisherPlace = in_form form (press_place (from_self_or_parents own_publisher e))
standard_of e form var.References = None
standard_of e form var.ReviewedGenre = None
standard_of e form var.ReviewedTitle = None
standard_of e form var.Scale = None
standard_of e form var.Source = in_form form (option_and_then own_title (bound_select repository e))
standard_of e form var.Status = None
standard_of e form var.Title = in_form form (own_title e)
standard_of e form var.TitleShort = in_form Short (own_title e)
standard_of e form var.URL = verbatim_chunk (web_address (from_self_or_parents (λ x. (out-Entry x).url) e))
standard_of e form var.VolumeTitle = in_form form (option_and_then own_title (bound_select volume_title e))
standard_of e form var.YearSuffix = None
