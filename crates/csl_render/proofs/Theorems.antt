-- The laws of rendering, over the definitions of `specs/`, proved for every input. The contracts
-- state what the code does by the same definitions.
use Rattle.std.proofs.Common.{◌≡◌, false, None, Some, ap}
use Rattle.csl_elements.specs.declared.taxonomy.Variable.{Variable}
use Rattle.csl_elements.specs.NamedSet.{a_variable, named_union}
use Rattle.csl_elements.specs.Node.{expand_layout}
use Rattle.csl_elements.specs.View.{view_layout}
use Rattle.csl_style.specs.declared.style.settings.Scope.TheVariants.{Citation}
use Rattle.csl_style.specs.Expanded.{macro_env}
use Rattle.csl_style.specs.Named.{the_variable}
use Rattle.csl_style.specs.Style.{StyleParts}
use Rattle.csl_entry.specs.Alike.{SameNamedAnswers}
use Rattle.csl_entry.specs.Answers.{Answers}
use Rattle.csl_entry.specs.Cite.{CiteState}
use Rattle.csl_entry.specs.declared.citation.cite.SpecialForm.{SpecialForm}
use Rattle.csl_entry.specs.declared.citation.cite.SpecialForm.TheVariants.{SuppressAuthor, VarOnly}
use Rattle.csl_entry.specs.Snapshot.{snapshot_of, kept_in}
use Rattle.csl_entry.proofs.Kept.{alike_of, same_named}
use Rattle.csl_context.specs.Context.{initial_state, base_inherited}
use Rattle.csl_render.specs.Cites.{special_cite, whole_cite, named_by, AgreeButForAuthors}
use Rattle.csl_render.specs.Laws.{AlikeEntriesRenderAlike, RenderingKeepsState, SnapshotsRenderAlike, AnswersDecide, EqualSnapshotsCiteAlike, SuppressedAuthorsAreSilent, SortKeysOrderAsDates, SuppressedVariablesAreSilent, OneVariableTellsNoOther}
use Rattle.csl_render.specs.Names.{author}
use Rattle.csl_render.specs.Pair.{cite_input}
use Rattle.csl_style.specs.Tested.{variables_of_tests}
use Rattle.csl_style.specs.Told.{told_beside}
use Rattle.csl_render.proofs.AuthorSilent.{author_silent}
use Rattle.csl_render.proofs.AlikeNodes.{layout_alike, suppressed_are_silent}
use Rattle.csl_render.proofs.OneVariable.{one_variable_alone}
use Rattle.csl_render.proofs.DatesInOrder.{keys_order}
use Rattle.csl_render.proofs.Pairs.{printed_alike}
use Rattle.csl_render.proofs.KeepsNodes as keeps

-- Entries that answer alike on what a layout names have equal contents and states by it.
pub alike_entries_render_alike : AlikeEntriesRenderAlike
alike_entries_render_alike w l a b alike inherited s = layout_alike a b w l inherited s (λ q h free. alike q h)

-- No rendering of a layout or a node undoes the state before it.
pub rendering_keeps_state : RenderingKeepsState
rendering_keeps_state w r inherited s = keeps.rendering_keeps w r inherited s

-- A snapshot of an entry has the entry's content and state by each layout that names no more than
-- the snapshot keeps.
pub snapshots_render_alike : SnapshotsRenderAlike
snapshots_render_alike w l named a within inherited s =
    layout_alike (kept_in (snapshot_of named a)) a w l inherited s (λ item h free. alike_of named a item (within item h))

-- The answers alone decide, whatever the types of two entries are.
pub answers_decide : AnswersDecide
answers_decide style scope cite sorting special layout a b alike =
    printed_alike initial_state (cite_input style scope cite sorting special a) layout a b alike

pub equal_snapshots_cite_alike : EqualSnapshotsCiteAlike
equal_snapshots_cite_alike style scope cite sorting special layout named a b within equal =
    answers_decide style scope cite sorting special layout a b (λ item h. same_named named a b equal item (within item h))

pub suppressed_authors_are_silent : SuppressedAuthorsAreSilent
suppressed_authors_are_silent w l a b special untested alike inherited s = author_silent l a b alike w special untested inherited s

-- The same of a cite in that form.
pub untold_author : (style : StyleParts) (cite : CiteState) (form : SpecialForm) (a b : Answers) → form ≡ SuppressAuthor → variables_of_tests style style.citation (a_variable author) ≡ false
    → AgreeButForAuthors (named_by style style.citation) a b → special_cite style cite form a ≡ special_cite style cite form b
untold_author style cite form a b is untested alike =
    author_silent (expand_layout (macro_env style) (view_layout style.citation)) a b alike (cite_input style Citation cite None (Some form) a) (ap (λ (f : SpecialForm). Some f) is) untested (base_inherited style Citation) initial_state

-- A cite that shows one variable alone tells no other, by the citation layout too.
pub untold_others : (style : StyleParts) (cite : CiteState) (form : SpecialForm) (v : Variable) (a b : Answers) → form ≡ VarOnly v → SameNamedAnswers (named_union (the_variable v) (told_beside v style style.citation)) a b
    → special_cite style cite form a ≡ special_cite style cite form b
untold_others style cite form v a b is alike =
    one_variable_alone (cite_input style Citation cite None (Some form) a) (expand_layout (macro_env style) (view_layout style.citation)) v a b (ap (λ (f : SpecialForm). Some f) is) alike (base_inherited style Citation) initial_state

-- The same of a whole cite by the citation layout, and of one in a special form.
pub whole_cite_decided : (style : StyleParts) (cite : CiteState) (a b : Answers) → SameNamedAnswers (named_by style style.citation) a b → whole_cite style Citation cite a style.citation ≡ whole_cite style Citation cite b style.citation
whole_cite_decided style cite a b alike = answers_decide style Citation cite None None style.citation a b alike

pub special_cite_decided : (style : StyleParts) (cite : CiteState) (form : SpecialForm) (a b : Answers) → SameNamedAnswers (named_by style style.citation) a b → special_cite style cite form a ≡ special_cite style cite form b
special_cite_decided style cite form a b alike = answers_decide style Citation cite None (Some form) style.citation a b alike

-- The sort keys of two entries by one date alone compare as the dates do.
pub sort_keys_order_as_dates : SortKeysOrderAsDates
sort_keys_order_as_dates style scope cite sorting a layout = keys_order style scope cite sorting a layout

-- A variable that a state suppresses is told by nothing that is rendered from it.
pub suppressed_variables_are_silent : SuppressedVariablesAreSilent
suppressed_variables_are_silent = suppressed_are_silent

-- A cite that shows one variable alone tells no other.
pub one_variable_tells_no_other : OneVariableTellsNoOther
one_variable_tells_no_other = one_variable_alone
