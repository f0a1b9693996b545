-- A variable is a standard, number, page, date or name variable (CSL 1.0.2, Appendix IV). A
-- `cs:number` may have a number variable or a page variable. Each kind of entry has one name, such
-- as `article-journal` (Appendix III, Types); a text is the name of one kind or of none. The
-- citation, and not the entry, answers four variables (`is_of_citation`): the citation number, the
-- number of the first note, the locator and the year suffix.
use Rattle.std.specs.Prelude.{ℕ, List, codes, Bool, true, false}
use Rattle.csl_elements.specs.declared.taxonomy.Kind.{Kind}
use Rattle.csl_elements.specs.declared.taxonomy.Kind.TheVariants as kinds
use Rattle.csl_elements.specs.declared.taxonomy.Variable.{Variable}
use Rattle.csl_elements.specs.declared.taxonomy.Variable.TheVariants as variables
use Rattle.csl_elements.specs.declared.taxonomy.NumberOrPageVariable.{NumberOrPageVariable}
use Rattle.csl_elements.specs.declared.taxonomy.NumberOrPageVariable.TheVariants as either
use Rattle.csl_elements.specs.declared.term.Term.{Term}
use Rattle.csl_elements.specs.declared.term.Term.TheVariants as terms
use Rattle.csl_elements.specs.declared.taxonomy.NumberVariable.TheVariants.{CitationNumber, FirstReferenceNoteNumber, Locator}
use Rattle.csl_elements.specs.declared.taxonomy.StandardVariable.TheVariants.{YearSuffix}

-- a number variable or a page variable as one of the five types
abbrev pub variable_of : NumberOrPageVariable → Variable
variable_of (either.Number number) = variables.Number number
variable_of (either.Page page) = variables.Page page

-- the term for a number variable or a page variable
abbrev pub term_of : NumberOrPageVariable → Term
term_of (either.Number number) = terms.Number number
term_of (either.Page page) = terms.Page page

-- the name of a kind
abbrev pub name_of : Kind → List ℕ
name_of kinds.Article = codes "article"
name_of kinds.ArticleJournal = codes "article-journal"
name_of kinds.ArticleMagazine = codes "article-magazine"
name_of kinds.ArticleNewspaper = codes "article-newspaper"
name_of kinds.Bill = codes "bill"
name_of kinds.Book = codes "book"
name_of kinds.Broadcast = codes "broadcast"
name_of kinds.Chapter = codes "chapter"
name_of kinds.Classic = codes "classic"
name_of kinds.Collection = codes "collection"
name_of kinds.Dataset = codes "dataset"
name_of kinds.Document = codes "document"
name_of kinds.Entry = codes "entry"
name_of kinds.EntryDictionary = codes "entry-dictionary"
name_of kinds.EntryEncyclopedia = codes "entry-encyclopedia"
name_of kinds.Event = codes "event"
name_of kinds.Figure = codes "figure"
name_of kinds.Graphic = codes "graphic"
name_of kinds.Hearing = codes "hearing"
name_of kinds.Interview = codes "interview"
name_of kinds.LegalCase = codes "legal_case"
name_of kinds.Legislation = codes "legislation"
name_of kinds.Manuscript = codes "manuscript"
name_of kinds.Map = codes "map"
name_of kinds.MotionPicture = codes "motion_picture"
name_of kinds.MusicalScore = codes "musical_score"
name_of kinds.Pamphlet = codes "pamphlet"
name_of kinds.PaperConference = codes "paper-conference"
name_of kinds.Patent = codes "patent"
name_of kinds.Performance = codes "performance"
name_of kinds.Periodical = codes "periodical"
name_of kinds.PersonalCommunication = codes "personal_communication"
name_of kinds.Post = codes "post"
name_of kinds.PostWeblog = codes "post-weblog"
name_of kinds.Regulation = codes "regulation"
name_of kinds.Report = codes "report"
name_of kinds.Review = codes "review"
name_of kinds.ReviewBook = codes "review-book"
name_of kinds.Software = codes "software"
name_of kinds.Song = codes "song"
name_of kinds.Speech = codes "speech"
name_of kinds.Standard = codes "standard"
name_of kinds.Thesis = codes "thesis"
name_of kinds.Treaty = codes "treaty"
name_of kinds.Webpage = codes "webpage"

-- the citation number, the number of the first note, the locator and the year suffix
abbrev pub is_of_citation : Variable → Bool
is_of_citation (variables.Number CitationNumber) = true
is_of_citation (variables.Number FirstReferenceNoteNumber) = true
is_of_citation (variables.Number Locator) = true
is_of_citation (variables.Standard YearSuffix) = true
is_of_citation other = false
