-- The kinds of the built-in entry (CSL 1.0.2, Appendix III, Types). They depend only on its own
-- type, the types of its direct parents, and whether it has a publisher and an address (`Typing`).
-- So entries with the same `works` are of the same kinds. An entry may be of several kinds, or of
-- none. The rule of each kind is at `is_kind`.
use Rattle.std.specs.Prelude.{◌≡◌, Bool, false, not, ◌&&◌, ◌||◌, ◌==◌, List, [], ◌∷◌, length, map, filter, is_some}
use Rattle.std.specs.List.{list_any}
use Rattle.lit_model.specs.declared.entry.Entry.{Entry, out-Entry}
use Rattle.lit_model.specs.declared.entry_type.EntryType.{EntryType}
use Rattle.lit_model.specs.declared.entry_type.EntryType.TheVariants.{Article, Chapter, Anthos, Report, Thesis, Web, Artwork, Patent, Case, Newspaper, Legislation, Manuscript, Post, Misc, Periodical, Proceedings, Book, Blog, Reference, Anthology, Repository, Thread, Video, Audio, Exhibition}
use Rattle.lit_model.specs.declared.entry_type.EntryType.TheVariants as of_type
use Rattle.lit_model.specs.Entry.{parents_of}
use Rattle.lit_model.specs.Select.{same_type, is_among}
use Rattle.lit_model.specs.Work.{Own, works}
use Rattle.csl_elements.specs.declared.taxonomy.Kind.{Kind}
use Rattle.csl_elements.specs.declared.taxonomy.Kind.TheVariants as kind

-- the typing of an entry, which decides its kinds: its own type, the types of its direct parents,
-- and whether it has a publisher and an address
pub record Typing : Type 0 where
  pub own : EntryType
  pub parents : List EntryType
  pub has_publisher : Bool
  pub has_address : Bool

abbrev pub typing_of : Entry → Typing
typing_of e = record {
  own = (out-Entry e).entry_type;
  parents = map (λ p. (out-Entry p).entry_type) (parents_of e);
  has_publisher = is_some (out-Entry e).publisher;
  has_address = is_some (out-Entry e).url;
}

-- the typing of an entry, from its own fields and those of its direct parents
abbrev pub typing_from : Own → List Own → Typing
typing_from own parents = record {
  own = own.entry_type;
  parents = map (λ p. p.entry_type) parents;
  has_publisher = is_some own.publisher;
  has_address = is_some own.url;
}

-- entries with the same `works` have the same typing
abbrev pub TypingIsShown : Entry → Type 0
TypingIsShown e = (other : Entry) → works e ≡ works other → typing_of e ≡ typing_of other

-- whether the entry itself is of that type
abbrev pub is_a : EntryType → Typing → Bool
is_a t y = same_type y.own t

-- whether a direct parent is of one of these types
abbrev pub is_part_of : List EntryType → Typing → Bool
is_part_of types y = list_any (λ t. is_among t types) y.parents

-- whether the entry has no parents
abbrev pub stands_alone : Typing → Bool
stands_alone y = length y.parents == 0

-- whether none of these tests holds
abbrev pub none_of : List (Typing → Bool) → Typing → Bool
none_of tests y = not (list_any (λ test. test y) tests)

abbrev pub is_journal_article : Typing → Bool
is_journal_article y = is_a Article y && is_part_of (Periodical ∷ []) y

abbrev pub is_newspaper_article : Typing → Bool
is_newspaper_article y = is_a Article y && is_part_of (Newspaper ∷ []) y

abbrev pub is_conference_paper : Typing → Bool
is_conference_paper y = is_a Article y && is_part_of (Proceedings ∷ []) y

-- a report, or anything in one
abbrev pub is_report : Typing → Bool
is_report y = is_a Report y || is_part_of (Report ∷ []) y

-- a thesis, or anything in one
abbrev pub is_thesis : Typing → Bool
is_thesis y = is_a Thesis y || is_part_of (Thesis ∷ []) y

-- a book in a periodical; the periodical itself is not of this kind
abbrev pub is_periodical : Typing → Bool
is_periodical y = is_a Book y && is_part_of (Periodical ∷ []) y

-- anything in a work of reference
abbrev pub is_encyclopedia_entry : Typing → Bool
is_encyclopedia_entry y = is_part_of (Reference ∷ []) y

abbrev pub is_recording : Typing → Bool
is_recording y = is_a Audio y || is_a Video y

-- an audio in a book, a periodical, a work of reference, a miscellany, a blog or a site
abbrev pub is_musical_score : Typing → Bool
is_musical_score y = is_a Audio y && is_part_of (Book ∷ Periodical ∷ Reference ∷ Misc ∷ Blog ∷ Web ∷ []) y

abbrev pub is_motion_picture : Typing → Bool
is_motion_picture y = is_a Video y && stands_alone y

abbrev pub is_song : Typing → Bool
is_song y = is_a Audio y && stands_alone y

-- anything in a blog
abbrev pub is_blog_post : Typing → Bool
is_blog_post y = is_part_of (Blog ∷ []) y

-- a post, or anything in a thread
abbrev pub is_post : Typing → Bool
is_post y = is_a Post y || is_part_of (Thread ∷ []) y

-- a site, a blog or a thread, anything in a site or a blog, and a miscellany (type Misc) with an
-- address
abbrev pub is_online : Typing → Bool
is_online y =
    (is_a Misc y && y.has_address)
    || (is_part_of (Web ∷ Blog ∷ []) y || (is_a Web y || (is_a Blog y || is_a Thread y)))

abbrev pub is_figure : Typing → Bool
is_figure y = is_a Artwork y && is_part_of (Article ∷ []) y

-- Whether an entry is of a kind.
-- - An article in a periodical, a newspaper or proceedings is a journal article, a newspaper
--   article or a conference paper. An article that is none of these, no report and no thesis, and
--   in no blog, is an article.
-- - A report or a thesis, or anything in one, is of that kind. Each of these types has a kind of
--   its own: manuscript, patent, exhibition (event), case (legal case), repository (software),
--   miscellany (document), anthology (collection).
-- - A book in a periodical is a periodical; any other book, and proceedings, are a book. A work in
--   an anthology (type Anthos), or a chapter in a book, an anthology or proceedings, is a chapter.
--   Anything in a work of reference is an encyclopedia entry; an entry that is in none is an entry.
-- - An audio in a book, a periodical, a work of reference, a miscellany, a blog or a site is a
--   musical score. A video without parents is a motion picture, an audio without parents a song,
--   any other recording a broadcast. So a recording is of exactly one of these four.
-- - A law with a publisher of its own is legislation, without one a bill. An artwork in an article
--   is a figure, any other a graphic.
-- - Anything in a blog is a weblog post. A post, or anything in a thread, is a post. A site, a
--   blog, a thread, anything in a site or a blog, and a miscellany with an address are a web page,
--   unless they are one of those two.
-- - No entry is of any other kind.
abbrev pub is_kind : Kind → Typing → Bool
is_kind kind.Article y =
    is_a Article y
    && none_of (is_journal_article ∷ is_newspaper_article ∷ is_conference_paper ∷ is_report ∷ is_thesis ∷ is_a Manuscript ∷ is_blog_post ∷ []) y
is_kind kind.ArticleJournal y = is_journal_article y
is_kind kind.ArticleMagazine y = false
is_kind kind.ArticleNewspaper y = is_newspaper_article y
is_kind kind.Bill y = is_a Legislation y && not y.has_publisher
is_kind kind.Book y = (is_a Book y || is_a Proceedings y) && not (is_periodical y)
is_kind kind.Broadcast y = is_recording y && none_of (is_musical_score ∷ is_motion_picture ∷ is_song ∷ []) y
is_kind kind.Chapter y =
    (is_a Anthos y && is_part_of (Anthology ∷ []) y)
    || (is_a Chapter y && is_part_of (Book ∷ Anthology ∷ Proceedings ∷ []) y)
is_kind kind.Classic y = false
is_kind kind.Collection y = is_a Anthology y
is_kind kind.Dataset y = false
is_kind kind.Document y = is_a Misc y
is_kind kind.Entry y = is_a of_type.Entry y && not (is_encyclopedia_entry y)
is_kind kind.EntryDictionary y = false
is_kind kind.EntryEncyclopedia y = is_encyclopedia_entry y
is_kind kind.Event y = is_a Exhibition y
is_kind kind.Figure y = is_figure y
is_kind kind.Graphic y = is_a Artwork y && not (is_figure y)
is_kind kind.Hearing y = false
is_kind kind.Interview y = false
is_kind kind.LegalCase y = is_a Case y
is_kind kind.Legislation y = is_a Legislation y && y.has_publisher
is_kind kind.Manuscript y = is_a Manuscript y
is_kind kind.Map y = false
is_kind kind.MotionPicture y = is_motion_picture y
is_kind kind.MusicalScore y = is_musical_score y
is_kind kind.Pamphlet y = false
is_kind kind.PaperConference y = is_conference_paper y
is_kind kind.Patent y = is_a Patent y
is_kind kind.Performance y = false
is_kind kind.Periodical y = is_periodical y
is_kind kind.PersonalCommunication y = false
is_kind kind.Post y = is_post y
is_kind kind.PostWeblog y = is_blog_post y
is_kind kind.Regulation y = false
is_kind kind.Report y = is_report y
is_kind kind.Review y = false
is_kind kind.ReviewBook y = false
is_kind kind.Software y = is_a Repository y
is_kind kind.Song y = is_song y
is_kind kind.Speech y = false
is_kind kind.Standard y = false
is_kind kind.Thesis y = is_thesis y
is_kind kind.Treaty y = false
is_kind kind.Webpage y = is_online y && none_of (is_blog_post ∷ is_post ∷ []) y

-- the given kinds that the entry is of
abbrev pub kinds_among : List Kind → Typing → List Kind
kinds_among kinds y = filter (λ k. is_kind k y) kinds

-- the kinds of recordings
abbrev pub recording_kinds : List Kind
recording_kinds = kind.Broadcast ∷ kind.MotionPicture ∷ kind.MusicalScore ∷ kind.Song ∷ []

-- the kinds of laws: in force, and proposed
abbrev pub legislation_kinds : List Kind
legislation_kinds = kind.Legislation ∷ kind.Bill ∷ []
