-- The lists of a names node (CSL 1.0.2, Names; Name Variables, `editortranslator`): persons for
-- each of its variables, in their order. A dry run looks the variables up silently and merges no
-- lists (`peeked_lists`). For printing, each lookup may suppress its variable for the next ones
-- (`resolved_lists`), and `lists_state` is the state after all of them. The lists for printing may
-- merge if the variables are the editors and the translators alone, in either order, and the style
-- has the long term `editortranslator` (`may_merge`). Then the editors come before the translators,
-- and an empty list is dropped. Two lists of the same persons become one, with the variable
-- `editortranslator` (`merged_lists`). `list_of` and `lists_view` are the lists of the code as
-- plain data.
use Rattle.std.specs.Prelude.{Bool, true, false, ◌&&◌, ◌||◌, List, [], ◌∷◌, is_some, if◌then◌else◌, map}
use Rattle.std.specs.List.{list_all}
use Rattle.std.specs.Cmp.Lexicographic.{pointwise}
use denote.Enum.Bare.{sameb}
use Rattle.std.specs.declared.alloc.Global.{Global}
use Rattle.std.specs.declared.borrow.Cow.{Cow}
use Rattle.std.specs.declared.vec.Vec.{Vec}
use Rattle.lit_model.specs.Person.{PersonView, person_view}
use Rattle.lit_model.specs.SamePerson.{same_persons}
use Rattle.lit_model.specs.declared.person.Person.{Person}
use Rattle.csl_elements.specs.contracts.taxonomy.NameVariable.{the_type}
use Rattle.csl_elements.specs.declared.taxonomy.NameVariable.{NameVariable}
use Rattle.csl_elements.specs.declared.taxonomy.NameVariable.TheVariants.{Editor, Translator, EditorTranslator}
use Rattle.csl_elements.specs.declared.taxonomy.Variable.TheVariants as variable
use Rattle.csl_elements.specs.declared.term.Term.TheVariants as terms
use Rattle.csl_elements.specs.declared.term.TermForm.TheVariants.{Long}
use Rattle.csl_style.specs.Style.{StyleParts}
use Rattle.csl_entry.specs.Answers.{cow_view}
use Rattle.csl_context.specs.State.{State, state_after_resolve}
use Rattle.csl_context.specs.RenderInput.{RenderInput, peek_names, term_in}

-- the persons of each variable
abbrev pub PersonLists : Type 0
PersonLists = List (List PersonView × NameVariable)

abbrev pub has_none : List PersonView → Bool
has_none [] = true
has_none (p ∷ ps) = false

abbrev pub all_empty : PersonLists → Bool
all_empty ls = list_all (λ l. has_none l.0) ls

-- ---- editors and translators

abbrev pub same_variables : List NameVariable → List NameVariable → Bool
same_variables = pointwise (sameb the_type)

-- whether the variables are the editors and the translators alone, in either order
abbrev pub is_pair : List NameVariable → Bool
is_pair vs = same_variables vs (Editor ∷ Translator ∷ []) || same_variables vs (Translator ∷ Editor ∷ [])

-- whether editors and translators may merge: the node has these two alone, and the style has the
-- long term `editortranslator`
abbrev pub may_merge : StyleParts → List NameVariable → Bool
may_merge style vs = is_some (term_in style (terms.Name EditorTranslator) Long false) && is_pair vs

-- an empty list is dropped, and two lists of the same persons become one
abbrev pub merged_lists : List PersonView → List PersonView → PersonLists
merged_lists [] [] = []
merged_lists [] (t ∷ ts) = (t ∷ ts, Translator) ∷ []
merged_lists (e ∷ es) [] = (e ∷ es, Editor) ∷ []
merged_lists (e ∷ es) (t ∷ ts) =
    if same_persons (e ∷ es) (t ∷ ts) then (e ∷ es, EditorTranslator) ∷ [] else (e ∷ es, Editor) ∷ (t ∷ ts, Translator) ∷ []

-- ---- the lists of a node

module _ (w : RenderInput) where
  -- the list of each variable in a dry run, by silent lookups: none are merged
  abbrev pub peeked_lists : State → List NameVariable → PersonLists
  peeked_lists s [] = []
  peeked_lists s (v ∷ vs) = (peek_names w s v, v) ∷ peeked_lists s vs

  -- the list of each variable, by lookups for printing; each one may suppress its variable for the
  -- next ones
  abbrev pub each_resolved : State → List NameVariable → PersonLists
  each_resolved s [] = []
  each_resolved s (v ∷ vs) = (peek_names w s v, v) ∷ each_resolved (state_after_resolve (variable.Name v) s) vs

  abbrev pub resolved_lists : State → List NameVariable → PersonLists
  resolved_lists s vs =
      if may_merge w.style vs
      then merged_lists (peek_names w s Editor) (peek_names w (state_after_resolve (variable.Name Editor) s) Translator)
      else each_resolved s vs

  abbrev pub state_after_resolve_all : State → List NameVariable → State
  state_after_resolve_all s [] = s
  state_after_resolve_all s (v ∷ vs) = state_after_resolve_all (state_after_resolve (variable.Name v) s) vs

  abbrev pub lists_state : State → List NameVariable → State
  lists_state s vs =
      if may_merge w.style vs then state_after_resolve (variable.Name Translator) (state_after_resolve (variable.Name Editor) s) else state_after_resolve_all s vs

-- ---- the lists of the code

-- the persons of a list, with their variable
abbrev pub list_of : Vec (Cow Person) Global × NameVariable → List PersonView × NameVariable
list_of l = (map (cow_view person_view) l.0.items, l.1)

-- several such lists
abbrev pub lists_view : Vec (Vec (Cow Person) Global × NameVariable) Global → List (List PersonView × NameVariable)
lists_view lists = map list_of lists.items
