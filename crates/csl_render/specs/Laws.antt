-- The laws of rendering, over the definitions of `Tree` and `Render`. Each holds for every input,
-- and `proofs/Theorems.antt` proves it. The first two are clauses of `render_pair`. Others are what
-- clauses say of one call: `suppressed` and `one_variable` of `render_pair`, `silent` of `cite_in`,
-- and `by_date` of `sort_key`, for the key that it returns.
use Rattle.std.specs.Prelude.{◌≡◌, true, false, Option, Some}
use Rattle.csl_elements.specs.declared.element.Layout.{Layout}
use Rattle.csl_elements.specs.declared.named.Named.{Named}
use Rattle.csl_elements.specs.declared.taxonomy.Variable.{Variable}
use Rattle.csl_elements.specs.NamedSet.{NamedItem, a_variable, named_set, named_union}
use Rattle.csl_elements.specs.Node.{ExpandedLayout}
use Rattle.csl_style.specs.declared.style.settings.Scope.{Scope}
use Rattle.csl_style.specs.Named.{named_in_nodes, the_variable}
use Rattle.csl_style.specs.Style.{StyleParts}
use Rattle.csl_entry.specs.Alike.{SameNamedAnswers}
use Rattle.csl_entry.specs.Answers.{Answers}
use Rattle.csl_entry.specs.Cite.{CiteState}
use Rattle.csl_entry.specs.declared.citation.cite.Sorting.{Sorting}
use Rattle.csl_entry.specs.declared.citation.cite.SpecialForm.{SpecialForm}
use Rattle.csl_entry.specs.declared.citation.cite.SpecialForm.TheVariants.{SuppressAuthor, VarOnly}
use Rattle.csl_entry.specs.Snapshot.{snapshot_of, kept_in}
use Rattle.csl_context.specs.RenderInput.{RenderInput}
use Rattle.csl_context.specs.State.{Inherited, State}
use Rattle.csl_render.specs.Cites.{new_cite, sort_key_text, named_by, AgreeButForAuthors}
use Rattle.csl_render.specs.Keeps.{Keeps}
use Rattle.csl_render.specs.Names.{author}
use Rattle.csl_render.specs.Pair.{with_answers, AgreeButForSuppressed}
use Rattle.csl_render.specs.Render.{Renderable, output_in}
use Rattle.csl_render.specs.SortedDates.{SortsByDate}
use Rattle.csl_style.specs.Tested.{tested_in_nodes}
use Rattle.csl_style.specs.Told.{told_in_nodes}
use Rattle.csl_render.specs.Tree.{layout_output}

-- Entries that answer alike on what a layout names have equal contents and states by it.
abbrev pub AlikeEntriesRenderAlike : Type 0
AlikeEntriesRenderAlike = (w : RenderInput) (l : ExpandedLayout) (a b : Answers) → SameNamedAnswers (named_in_nodes l.elements) a b
    → (inherited : Inherited) (s : State) → layout_output (with_answers a w) l inherited s ≡ layout_output (with_answers b w) l inherited s

-- No rendering of a layout or a node undoes the state before it (`Keeps`).
abbrev pub RenderingKeepsState : Type 0
RenderingKeepsState = (w : RenderInput) (r : Renderable) (inherited : Inherited) (s : State) → Keeps s (output_in w r inherited s).state

-- A snapshot of an entry has the entry's content and state by each layout that names no more than
-- the snapshot keeps.
abbrev pub SnapshotsRenderAlike : Type 0
SnapshotsRenderAlike = (w : RenderInput) (l : ExpandedLayout) (named : Named) (a : Answers)
    → ((item : NamedItem) → named_in_nodes l.elements item ≡ true → named_set named item ≡ true)
    → (inherited : Inherited) (s : State) → layout_output (with_answers (kept_in (snapshot_of named a)) w) l inherited s ≡ layout_output (with_answers a w) l inherited s

-- The answers alone decide: two entries, of whatever types, that answer alike on what a layout
-- names have equal cites by it, in content and in the state left.
abbrev pub AnswersDecide : Type 0
AnswersDecide = (style : StyleParts) (scope : Scope) (cite : CiteState) (sorting : Option Sorting) (special : Option SpecialForm) (layout : Layout) (a b : Answers)
    → SameNamedAnswers (named_by style layout) a b → new_cite style scope cite sorting special a layout ≡ new_cite style scope cite sorting special b layout

-- Two entries whose snapshots by one set are equal have equal cites by each layout that names no
-- more than the set.
abbrev pub EqualSnapshotsCiteAlike : Type 0
EqualSnapshotsCiteAlike = (style : StyleParts) (scope : Scope) (cite : CiteState) (sorting : Option Sorting) (special : Option SpecialForm) (layout : Layout) (named : Named) (a b : Answers)
    → ((item : NamedItem) → named_by style layout item ≡ true → named_set named item ≡ true)
    → snapshot_of named a ≡ snapshot_of named b → new_cite style scope cite sorting special a layout ≡ new_cite style scope cite sorting special b layout

-- A cite that suppresses its author does not tell it: by a layout in which no test of a branch names
-- the author, two entries that answer alike on all else that it names have equal contents and states.
abbrev pub SuppressedAuthorsAreSilent : Type 0
SuppressedAuthorsAreSilent = (w : RenderInput) (l : ExpandedLayout) (a b : Answers) → w.instance.special ≡ Some SuppressAuthor → tested_in_nodes l.elements (a_variable author) ≡ false
    → AgreeButForAuthors (named_in_nodes l.elements) a b
    → (inherited : Inherited) (s : State) → layout_output (with_answers a w) l inherited s ≡ layout_output (with_answers b w) l inherited s

-- Sorted by the key is sorted by the date: by a layout of one date and nothing else, the sort keys of
-- two entries compare by bytes as their dates do in time, none first, if no year suffix follows and
-- both years are in the range of `HasKeyYear`.
abbrev pub SortKeysOrderAsDates : Type 0
SortKeysOrderAsDates = (style : StyleParts) (scope : Scope) (cite : CiteState) (sorting : Sorting) (a : Answers) (layout : Layout)
    → SortsByDate (sort_key_text style scope cite sorting a layout) style scope cite sorting a layout

-- A variable that is suppressed is told by nothing after it: from a state, two entries that answer
-- alike on all that a layout names and that the state does not suppress have equal contents and
-- states.
abbrev pub SuppressedVariablesAreSilent : Type 0
SuppressedVariablesAreSilent = (w : RenderInput) (l : ExpandedLayout) (a b : Answers) (inherited : Inherited) (s : State)
    → AgreeButForSuppressed s (named_in_nodes l.elements) a b → layout_output (with_answers a w) l inherited s ≡ layout_output (with_answers b w) l inherited s

-- A cite that shows one variable alone tells no other: two entries that answer alike on it, and on
-- what the layout tells beside it (`Told`), have equal contents and states.
abbrev pub OneVariableTellsNoOther : Type 0
OneVariableTellsNoOther = (w : RenderInput) (l : ExpandedLayout) (v : Variable) (a b : Answers) → w.instance.special ≡ Some (VarOnly v)
    → SameNamedAnswers (named_union (the_variable v) (told_in_nodes v l.elements)) a b
    → (inherited : Inherited) (s : State) → layout_output (with_answers a w) l inherited s ≡ layout_output (with_answers b w) l inherited s
