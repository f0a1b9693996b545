-- Selections: a list of clauses selects an entry, one of its direct parents, or nothing.
-- - A clause lists the types of the entry (`own`), the fields that the entry itself must have
--   (`fields`), and the types of a direct parent (`parent`). An empty list of types means every
--   type. If `parent` is not set, no parent is needed. `bind` is the selection: nothing, the child
--   (the entry itself) or the parent.
-- - An entry *fits* a clause if its type is in `own`, it has each of the fields, and, if a parent
--   is needed, some direct parent has one of the types. A list of clauses *matches* if one of them
--   fits. The first clause that fits *selects* nothing, the entry, or the first direct parent of
--   one of the types. A clause that selects the parent but needs none selects nothing.
-- - The *whole* of a chapter or a scene without a title is the whole of its first parent, if it has
--   one. The whole of any other entry is the entry (`full_of`).
-- - The *container* of an entry is the parent that `container` selects. The *collection* is the
--   first parent of the container if there is a container, else the parent that `collection`
--   selects. The *original* is the first parent of type Original. Other crates use the other
--   selections.
use Rattle.std.specs.Prelude.{Bool, true, ◌&&◌, ◌||◌, List, [], ◌∷◌, Option, Some, None, is_some, is_none, option_map, option_and_then, find, slice_get, if◌then◌else◌}
use Rattle.std.specs.List.{list_any, list_all}
use denote.Enum.Bare.{sameb}
use Rattle.lit_model.specs.declared.entry.Entry.{Entry, Entry-F, out-Entry, para-Entry}
use Rattle.lit_model.specs.declared.entry_type.EntryType.{EntryType}
use Rattle.lit_model.specs.declared.entry_type.EntryType.TheVariants.{Article, Chapter, Anthos, Report, Web, Scene, Newspaper, Legislation, Misc, Periodical, Proceedings, Book, Blog, Reference, Conference, Anthology, Video, Audio, Exhibition, Original}
use Rattle.lit_model.specs.declared.entry_type.EntryType.TheVariants as of_type
use Rattle.lit_model.specs.contracts.entry_type.EntryType.{the_type}
use Rattle.lit_model.specs.declared.select.Clause.{Clause}
use Rattle.lit_model.specs.declared.select.Bind.{Bind}
use Rattle.lit_model.specs.declared.select.Bind.TheVariants.{Nothing, Child, Parent}
use Rattle.lit_model.specs.declared.select.Field.{Field}
use Rattle.lit_model.specs.declared.select.Field.TheVariants.{Date, Url, Issue, Volume}
use Rattle.lit_model.specs.Entry.{parents_of}

-- a clause by its lists
pub record ClauseView : Type 0 where
  pub own : List EntryType
  pub fields : List Field
  pub parent : Option (List EntryType)
  pub bind : Bind

abbrev pub clause_view : Clause → ClauseView
clause_view c = record { own = c.own.now; fields = c.fields.now; parent = option_map (λ types. types.now) c.parent; bind = c.bind }

-- whether the two types are equal
abbrev pub same_type : EntryType → EntryType → Bool
same_type = sameb the_type

-- whether the type is in the list; an empty list means every type
abbrev pub is_among : EntryType → List EntryType → Bool
is_among t [] = true
is_among t (x ∷ xs) = list_any (λ y. same_type y t) (x ∷ xs)

-- whether the entry itself has the field
abbrev pub has_field : Entry → Field → Bool
has_field e Date = is_some (out-Entry e).date
has_field e Url = is_some (out-Entry e).url
has_field e Issue = is_some (out-Entry e).issue
has_field e Volume = is_some (out-Entry e).volume

-- the first direct parent of one of these types; an empty list means every type
abbrev pub parent_among : List EntryType → Entry → Option Entry
parent_among types e = find (λ p. is_among (out-Entry p).entry_type types) (parents_of e)

-- whether a direct parent has one of the types, if a parent is needed
abbrev pub has_parent : Option (List EntryType) → Entry → Bool
has_parent None e = true
has_parent (Some types) e = is_some (parent_among types e)

-- whether the entry fits the clause
abbrev pub fits : Entry → ClauseView → Bool
fits e r = is_among (out-Entry e).entry_type r.own && (list_all (has_field e) r.fields && has_parent r.parent e)

-- the selection of a clause that fits
abbrev pub bound_by : Bind → Option (List EntryType) → Entry → Option Entry
bound_by Nothing parent e = None
bound_by Child parent e = Some e
bound_by Parent None e = None
bound_by Parent (Some types) e = parent_among types e

-- the selection of the first clause that fits
abbrev pub bound_select : List ClauseView → Entry → Option Entry
bound_select rules e = option_and_then (λ r. bound_by r.bind r.parent e) (find (fits e) rules)

-- whether some clause fits
abbrev pub matches : List ClauseView → Entry → Bool
matches rules e = list_any (fits e) rules

-- selects the parent: a work of a type in `parents`, of an entry of a type in `own`
abbrev pub parent_of : List EntryType → List EntryType → ClauseView
parent_of own parents = record { own = own; fields = []; parent = Some parents; bind = Parent }

-- selects the entry: a work of a type in `own`, with a parent of a type in `parents`
abbrev pub child_of : List EntryType → List EntryType → ClauseView
child_of own parents = record { own = own; fields = []; parent = Some parents; bind = Child }

-- The container is the parent of a chapter in a book, an anthology or proceedings; of a work of
-- type Anthos in an anthology; of an entry (type Entry) in anything; of an article in proceedings,
-- a periodical, a newspaper, a blog or a site; of anything in a work of reference, a site or a
-- blog.
abbrev pub container : List ClauseView
container =
    parent_of (Chapter ∷ []) (Book ∷ Anthology ∷ Proceedings ∷ [])
    ∷ parent_of (Anthos ∷ []) (Anthology ∷ [])
    ∷ parent_of (of_type.Entry ∷ []) []
    ∷ parent_of (Article ∷ []) (Proceedings ∷ Periodical ∷ Newspaper ∷ Blog ∷ Web ∷ [])
    ∷ parent_of [] (Reference ∷ Web ∷ Blog ∷ [])
    ∷ []

-- The collection of a work without a container is the parent of a book, an anthology, proceedings,
-- a work of reference or a report in a book, an anthology, a periodical or a work of reference.
abbrev pub collection : List ClauseView
collection = parent_of (Book ∷ Anthology ∷ Proceedings ∷ Reference ∷ Report ∷ []) (Book ∷ Anthology ∷ Periodical ∷ Reference ∷ []) ∷ []

-- the original: the parent of type Original
abbrev pub original : List ClauseView
original = parent_of [] (Original ∷ []) ∷ []

-- the event of a work: the parent of type Exhibition, Conference or Misc
abbrev pub event : List ClauseView
event = parent_of [] (Exhibition ∷ Conference ∷ Misc ∷ []) ∷ []

-- the entry whose volume is a chapter number: a work of type Anthos in an anthology, an article in
-- proceedings, or anything in a work of reference or a book
abbrev pub chapter : List ClauseView
chapter =
    child_of (Anthos ∷ []) (Anthology ∷ [])
    ∷ child_of [] (Reference ∷ [])
    ∷ child_of (Article ∷ []) (Proceedings ∷ [])
    ∷ child_of [] (Book ∷ [])
    ∷ []

-- the entry whose volume is a part number: anything in an article, a blog, a book or a law
abbrev pub part : List ClauseView
part = child_of [] (Article ∷ Blog ∷ Book ∷ Legislation ∷ []) ∷ []

-- The work whose title is the title of a volume is the parent of a work of type Anthos in an
-- anthology, of an entry (type Entry) in anything, of anything in a work of reference, or of an
-- article in proceedings.
abbrev pub volume_title : List ClauseView
volume_title =
    parent_of (Anthos ∷ []) (Anthology ∷ [])
    ∷ parent_of (of_type.Entry ∷ []) []
    ∷ parent_of [] (Reference ∷ [])
    ∷ parent_of (Article ∷ []) (Proceedings ∷ [])
    ∷ []

-- the recording: the parent of type Audio or Video, else the entry itself if it is of such a type
abbrev pub audio_video : List ClauseView
audio_video =
    parent_of [] (Audio ∷ Video ∷ [])
    ∷ record { own = Audio ∷ Video ∷ []; fields = []; parent = None; bind = Child }
    ∷ []

-- the first of the parents, if any
abbrev pub first_parent : Entry → Option Entry
first_parent e = slice_get (parents_of e) 0

-- whether the entry is a chapter or a scene without a title of its own
abbrev pub is_untitled_part : Entry → Bool
is_untitled_part e = (same_type (out-Entry e).entry_type Chapter || same_type (out-Entry e).entry_type Scene) && is_none (out-Entry e).title

-- the container of the entry, if there is one
abbrev pub container_of : Entry → Option Entry
container_of e = bound_select container e

abbrev collection_after : Option Entry → Entry → Option Entry
collection_after None e = bound_select collection e
collection_after (Some c) e = first_parent c

-- the collection of an entry: the first parent of its container, else the parent that `collection`
-- selects
abbrev pub collection_of : Entry → Option Entry
collection_of e = collection_after (container_of e) e

abbrev pub first_full : List (Entry × (Entry → Entry)) → Entry → Entry
first_full [] e = e
first_full (p ∷ ps) e = p.1 p.0

-- One step, given each parent with its whole. The whole of an untitled chapter or scene is the
-- whole of its first parent, if it has one. The whole of any other entry is the entry.
abbrev pub full_step : Entry-F (Entry × (Entry → Entry)) → Entry → Entry
full_step x e = if is_untitled_part e then first_full x.parents.items e else e

-- the whole of an entry, by the steps of `full_step`
abbrev pub full_of : Entry → Entry
full_of e = para-Entry (Entry → Entry) full_step e e
