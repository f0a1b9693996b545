-- The *creators* of a work are its authors if it has a list of authors, else its editors if it has
-- a list of editors, else its makers (CSL 1.0.2, Appendix IV, `citation-label`). An empty list
-- counts as one. The makers are:
-- - of a video with an issue and a volume, in a parent that is a video: its directors and then its
--   writers; if there are none, the executive producers of the first such parent;
-- - of any other video: its directors, else its executive producers;
-- - of any other work: its compilers, else its translators.
use Rattle.std.specs.Prelude.{List, [], ◌∷◌, ◌++◌, map, Option, Some, None, option_map, unwrap_or, if◌then◌else◌}
use Rattle.lit_model.specs.declared.entry.Entry.{Entry, out-Entry}
use Rattle.lit_model.specs.declared.entry_type.EntryType.{EntryType}
use Rattle.lit_model.specs.declared.entry_type.EntryType.TheVariants.{Video}
use Rattle.lit_model.specs.declared.person.Person.{Person}
use Rattle.lit_model.specs.declared.person.PersonRole.{PersonRole}
use Rattle.lit_model.specs.declared.person.PersonRole.TheVariants.{Translator, Compiler, ExecutiveProducer, Writer, Director}
use Rattle.lit_model.specs.declared.select.Bind.TheVariants.{Parent}
use Rattle.lit_model.specs.declared.select.Field.TheVariants.{Issue, Volume}
use Rattle.lit_model.specs.Entry.{role_groups}
use Rattle.lit_model.specs.Person.{PersonView, person_view, same_role, with_role}
use Rattle.lit_model.specs.Select.{ClauseView, same_type, bound_select}
use Rattle.lit_model.specs.Work.{own_of}

-- an entry's own persons of a role, in order
abbrev pub in_role : PersonRole → Entry → List Person
in_role role e = with_role (λ r. same_role r role) (role_groups e)

-- the persons of each role
abbrev pub ByRole : Type 0
ByRole = PersonRole → List PersonView

-- an entry's own persons of each role, in order
abbrev pub by_role : Entry → ByRole
by_role e role = map person_view (in_role role e)

-- the first list, or the second one if the first is empty
abbrev pub or_else : List PersonView → List PersonView → List PersonView
or_else [] others = others
or_else (p ∷ ps) others = p ∷ ps

-- selects the series of an episode: of a video with an issue and a volume, the first parent that is
-- a video
abbrev pub series : List ClauseView
series = record { own = Video ∷ []; fields = Issue ∷ Volume ∷ []; parent = Some (Video ∷ []); bind = Parent } ∷ []

-- the makers of an episode of a series are its directors and then its writers, or else the series'
-- executive producers; those of another video are its directors, or else its executive producers
abbrev pub video_makers : ByRole → Option ByRole → List PersonView
video_makers own (Some series) = or_else (own Director ++ own Writer) (series ExecutiveProducer)
video_makers own None = or_else (own Director) (own ExecutiveProducer)

-- the makers of a work, by its type, its persons and those of its series
abbrev pub makers_from : EntryType → ByRole → Option ByRole → List PersonView
makers_from entry_type own series =
    if same_type entry_type Video
    then video_makers own series
    else or_else (own Compiler) (own Translator)

abbrev pub makers : Entry → List PersonView
makers e = makers_from (out-Entry e).entry_type (by_role e) (option_map by_role (bound_select series e))

-- the creators of a work: its authors, else its editors, else its makers
abbrev pub creators_of : Entry → List PersonView
creators_of e = unwrap_or (own_of e).authors (unwrap_or (own_of e).editors (makers e))
