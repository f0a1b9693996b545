-- Each variable has one name, such as `container-title` (CSL 1.0.2, Appendix IV: Variables). No two
-- have the same. Styles also spell `editor-translator` in one word, as its term is spelled; both
-- spellings are read, and that of Appendix IV is written.
use Rattle.std.specs.Prelude.{ℕ, List, codes, if◌then◌else◌}
use Rattle.std.specs.Str.{bytes_eq}
use Rattle.csl_elements.specs.declared.taxonomy.StandardVariable.{StandardVariable}
use Rattle.csl_elements.specs.declared.taxonomy.StandardVariable.TheVariants as standards
use Rattle.csl_elements.specs.declared.taxonomy.NumberVariable.{NumberVariable}
use Rattle.csl_elements.specs.declared.taxonomy.NumberVariable.TheVariants as numbers
use Rattle.csl_elements.specs.declared.taxonomy.PageVariable.{PageVariable}
use Rattle.csl_elements.specs.declared.taxonomy.PageVariable.TheVariants as pages
use Rattle.csl_elements.specs.declared.taxonomy.DateVariable.{DateVariable}
use Rattle.csl_elements.specs.declared.taxonomy.DateVariable.TheVariants as dates
use Rattle.csl_elements.specs.declared.taxonomy.NameVariable.{NameVariable}
use Rattle.csl_elements.specs.declared.taxonomy.NameVariable.TheVariants as names
use Rattle.csl_elements.specs.declared.taxonomy.Variable.{Variable}
use Rattle.csl_elements.specs.declared.taxonomy.Variable.TheVariants as variables

-- the name of a standard variable
abbrev pub standard_name : StandardVariable → List ℕ
standard_name standards.Abstract = codes "abstract"
standard_name standards.Annote = codes "annote"
standard_name standards.Archive = codes "archive"
standard_name standards.ArchiveCollection = codes "archive_collection"
standard_name standards.ArchiveLocation = codes "archive_location"
standard_name standards.ArchivePlace = codes "archive-place"
standard_name standards.Authority = codes "authority"
standard_name standards.CallNumber = codes "call-number"
standard_name standards.CitationKey = codes "citation-key"
standard_name standards.CitationLabel = codes "citation-label"
standard_name standards.CollectionTitle = codes "collection-title"
standard_name standards.ContainerTitle = codes "container-title"
standard_name standards.ContainerTitleShort = codes "container-title-short"
standard_name standards.Dimensions = codes "dimensions"
standard_name standards.Division = codes "division"
standard_name standards.DOI = codes "DOI"
standard_name standards.Event = codes "event"
standard_name standards.EventTitle = codes "event-title"
standard_name standards.EventPlace = codes "event-place"
standard_name standards.Genre = codes "genre"
standard_name standards.ISBN = codes "ISBN"
standard_name standards.ISSN = codes "ISSN"
standard_name standards.Jurisdiction = codes "jurisdiction"
standard_name standards.Keyword = codes "keyword"
standard_name standards.Language = codes "language"
standard_name standards.License = codes "license"
standard_name standards.Medium = codes "medium"
standard_name standards.Note = codes "note"
standard_name standards.OriginalPublisher = codes "original-publisher"
standard_name standards.OriginalPublisherPlace = codes "original-publisher-place"
standard_name standards.OriginalTitle = codes "original-title"
standard_name standards.PartTitle = codes "part-title"
standard_name standards.PMCID = codes "PMCID"
standard_name standards.PMID = codes "PMID"
standard_name standards.Publisher = codes "publisher"
standard_name standards.PublisherPlace = codes "publisher-place"
standard_name standards.References = codes "references"
standard_name standards.ReviewedGenre = codes "reviewed-genre"
standard_name standards.ReviewedTitle = codes "reviewed-title"
standard_name standards.Scale = codes "scale"
standard_name standards.Source = codes "source"
standard_name standards.Status = codes "status"
standard_name standards.Title = codes "title"
standard_name standards.TitleShort = codes "title-short"
standard_name standards.URL = codes "URL"
standard_name standards.VolumeTitle = codes "volume-title"
standard_name standards.YearSuffix = codes "year-suffix"

-- the name of a number variable
abbrev pub number_name : NumberVariable → List ℕ
number_name numbers.ChapterNumber = codes "chapter-number"
number_name numbers.CitationNumber = codes "citation-number"
number_name numbers.CollectionNumber = codes "collection-number"
number_name numbers.Edition = codes "edition"
number_name numbers.FirstReferenceNoteNumber = codes "first-reference-note-number"
number_name numbers.Issue = codes "issue"
number_name numbers.Locator = codes "locator"
number_name numbers.Number = codes "number"
number_name numbers.NumberOfPages = codes "number-of-pages"
number_name numbers.NumberOfVolumes = codes "number-of-volumes"
number_name numbers.PageFirst = codes "page-first"
number_name numbers.PartNumber = codes "part-number"
number_name numbers.PrintingNumber = codes "printing-number"
number_name numbers.Section = codes "section"
number_name numbers.SupplementNumber = codes "supplement-number"
number_name numbers.Version = codes "version"
number_name numbers.Volume = codes "volume"

-- the name of a page variable
abbrev pub page_name : PageVariable → List ℕ
page_name pages.Page = codes "page"

-- the name of a date variable
abbrev pub date_name : DateVariable → List ℕ
date_name dates.Accessed = codes "accessed"
date_name dates.AvailableDate = codes "available-date"
date_name dates.EventDate = codes "event-date"
date_name dates.Issued = codes "issued"
date_name dates.OriginalDate = codes "original-date"
date_name dates.Submitted = codes "submitted"

-- the name of a name variable
abbrev pub name_variable_name : NameVariable → List ℕ
name_variable_name names.Author = codes "author"
name_variable_name names.Chair = codes "chair"
name_variable_name names.CollectionEditor = codes "collection-editor"
name_variable_name names.Compiler = codes "compiler"
name_variable_name names.Composer = codes "composer"
name_variable_name names.ContainerAuthor = codes "container-author"
name_variable_name names.Contributor = codes "contributor"
name_variable_name names.Curator = codes "curator"
name_variable_name names.Director = codes "director"
name_variable_name names.Editor = codes "editor"
name_variable_name names.EditorialDirector = codes "editorial-director"
name_variable_name names.EditorTranslator = codes "editor-translator"
name_variable_name names.ExecutiveProducer = codes "executive-producer"
name_variable_name names.Guest = codes "guest"
name_variable_name names.Host = codes "host"
name_variable_name names.Illustrator = codes "illustrator"
name_variable_name names.Interviewer = codes "interviewer"
name_variable_name names.Narrator = codes "narrator"
name_variable_name names.Organizer = codes "organizer"
name_variable_name names.OriginalAuthor = codes "original-author"
name_variable_name names.Performer = codes "performer"
name_variable_name names.Producer = codes "producer"
name_variable_name names.Recipient = codes "recipient"
name_variable_name names.ReviewedAuthor = codes "reviewed-author"
name_variable_name names.ScriptWriter = codes "script-writer"
name_variable_name names.SeriesCreator = codes "series-creator"
name_variable_name names.Translator = codes "translator"

-- the name of a variable
abbrev pub variable_name : Variable → List ℕ
variable_name (variables.Standard variable) = standard_name variable
variable_name (variables.Number variable) = number_name variable
variable_name (variables.Page variable) = page_name variable
variable_name (variables.Date variable) = date_name variable
variable_name (variables.Name variable) = name_variable_name variable

-- the name of a variable in the spelling of Appendix IV
abbrev pub variable_spelling : List ℕ → List ℕ
variable_spelling name = if bytes_eq name (codes "editortranslator") then codes "editor-translator" else name
