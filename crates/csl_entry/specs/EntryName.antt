-- The answers of the built-in entry to name variables (CSL 1.0.2, Appendix IV, Name Variables). The
-- persons of a role are those of the entry's own groups of that role, in order.
-- - Author: the own authors. Editor: the own editors if there is a list, else the container's.
-- - Translator, compiler, composer, illustrator, narrator, organizer, producer, executive producer:
--   the persons of that role. Contributor, performer, script writer: collaborators, cast members,
--   writers.
-- - Editor-translator: the own editors who equal a translator, in every text and the comma.
-- - Collection editor: the collection's editors. Container author, original author: the
--   container's, the original's authors. Chair: the directors of the first parent that is
--   proceedings or a conference. Curator: the organizers of the first parent that is an exhibition.
-- - Director, series creator: the directors, the founders of the recording (the first parent that
--   is one, else the entry itself if it is one).
-- - Editorial director, guest, host, interviewer, recipient, reviewed author: nobody. A variable of
--   another work also has nobody if the entry has no such work.
use Rattle.std.specs.Prelude.{Bool, List, [], ◌∷◌, map, Option, Some, None, Vec}
use Rattle.std.specs.List.{list_any, filter}
use Rattle.std.specs.declared.alloc.Global.{Global}
use Rattle.csl_elements.specs.declared.taxonomy.NameVariable.{NameVariable}
use Rattle.csl_elements.specs.declared.taxonomy.NameVariable.TheVariants.{Author, Chair, CollectionEditor, Compiler, Composer, ContainerAuthor, Contributor, Curator, Director, Editor, EditorialDirector, EditorTranslator, ExecutiveProducer, Guest, Host, Illustrator, Interviewer, Narrator, Organizer, OriginalAuthor, Performer, Producer, Recipient, ReviewedAuthor, ScriptWriter, SeriesCreator, Translator}
use Rattle.lit_model.specs.declared.entry.Entry.{Entry, out-Entry}
use Rattle.lit_model.specs.declared.entry_type.EntryType.TheVariants.{Proceedings, Conference, Exhibition}
use Rattle.lit_model.specs.declared.person.Person.{Person}
use Rattle.lit_model.specs.declared.person.PersonRole.TheVariants as role
use Rattle.lit_model.specs.Person.{PersonView, person_view}
use Rattle.lit_model.specs.SamePerson.{same_person}
use Rattle.lit_model.specs.Select.{ClauseView, parent_of, bound_select, original, audio_video, container_of, collection_of}
use Rattle.csl_entry.specs.Creators.{in_role}

-- selects the first parent that is proceedings or a conference
abbrev pub conference_clauses : List ClauseView
conference_clauses = parent_of [] (Proceedings ∷ Conference ∷ []) ∷ []

abbrev pub exhibition : List ClauseView
exhibition = parent_of [] (Exhibition ∷ []) ∷ []

-- the persons of a work, or nobody if there is no work
abbrev pub persons_of_bound : (Entry → List Person) → Option Entry → List Person
persons_of_bound persons None = []
persons_of_bound persons (Some e) = persons e

-- the listed persons, or the others if there is no list; an empty list counts as one
abbrev pub persons_or : Option (Vec Person Global) → List Person → List Person
persons_or (Some persons) others = persons.items
persons_or None others = others

abbrev pub own_authors : Entry → List Person
own_authors e = persons_or (out-Entry e).authors []

abbrev pub own_editors : Entry → List Person
own_editors e = persons_or (out-Entry e).editors []

-- whether one of the persons is equal to this one
abbrev pub is_one_of : List Person → Person → Bool
is_one_of persons p = list_any (λ q. same_person (person_view q) (person_view p)) persons

-- the persons of each name variable
abbrev pub persons_of : Entry → NameVariable → List Person
persons_of e Author = own_authors e
persons_of e Chair = persons_of_bound (in_role role.Director) (bound_select conference_clauses e)
persons_of e CollectionEditor = persons_of_bound own_editors (collection_of e)
persons_of e Compiler = in_role role.Compiler e
persons_of e Composer = in_role role.Composer e
persons_of e ContainerAuthor = persons_of_bound own_authors (container_of e)
persons_of e Contributor = in_role role.Collaborator e
persons_of e Curator = persons_of_bound (in_role role.Organizer) (bound_select exhibition e)
persons_of e Director = persons_of_bound (in_role role.Director) (bound_select audio_video e)
persons_of e Editor = persons_or (out-Entry e).editors (persons_of_bound own_editors (container_of e))
persons_of e EditorialDirector = []
persons_of e EditorTranslator = filter (is_one_of (in_role role.Translator e)) (own_editors e)
persons_of e ExecutiveProducer = in_role role.ExecutiveProducer e
persons_of e Guest = []
persons_of e Host = []
persons_of e Illustrator = in_role role.Illustrator e
persons_of e Interviewer = []
persons_of e Narrator = in_role role.Narrator e
persons_of e Organizer = in_role role.Organizer e
persons_of e OriginalAuthor = persons_of_bound own_authors (bound_select original e)
persons_of e Performer = in_role role.CastMember e
persons_of e Producer = in_role role.Producer e
persons_of e Recipient = []
persons_of e ReviewedAuthor = []
persons_of e ScriptWriter = in_role role.Writer e
persons_of e SeriesCreator = persons_of_bound (in_role role.Founder) (bound_select audio_video e)
persons_of e Translator = in_role role.Translator e

abbrev pub names_of : Entry → NameVariable → List PersonView
names_of e variable = map person_view (persons_of e variable)
