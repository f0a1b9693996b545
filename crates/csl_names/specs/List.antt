-- A list of names (CSL 1.0.2, Name: `and`, `delimiter`, `delimiter-precedes-et-al`,
-- `delimiter-precedes-last`, `et-al-use-last`, `name-as-sort-order`; Et-al) has persons, and a form
-- or none for each place (`NameForms`). Like a name, it is a list of pieces (`name_list`): the
-- names, and the pieces that replace those left out. A gap of the list depends on the whole
-- innermost open part, also on the content before the list.
use Rattle.std.specs.Prelude.{ℕ, ◌+◌, ◌-◌, Bool, true, false, ◌&&◌, ◌==◌, nat_lt, nat_le, min, List, [], ◌∷◌, ◌++◌, length, Option, Some, None, is_none, slice_get, codes, if◌then◌else◌}
use Rattle.std.specs.List.{position}
use Rattle.lit_model.specs.Person.{PersonView}
use Rattle.csl_elements.specs.declared.formatting.Formatting as partial
use Rattle.csl_elements.specs.declared.taxonomy.NameVariable.{NameVariable}
use Rattle.csl_elements.specs.declared.names.DelimiterBehavior.{DelimiterBehavior}
use Rattle.csl_elements.specs.declared.names.DelimiterBehavior.TheVariants.{Contextual, AfterInvertedName, Always, Never}
use Rattle.csl_elements.specs.declared.names.NameAsSortOrder.{NameAsSortOrder}
use Rattle.csl_elements.specs.declared.names.NameAsSortOrder.TheVariants.{First, All}
use Rattle.csl_elements.specs.NamesParts.{no_formatting}
use Rattle.csl_tree.specs.Tokens.{of_name}
use Rattle.csl_tree.specs.Content.{elem_content}
use Rattle.csl_entry.specs.declared.forms.name_form.DisambiguatedNameForm.{DisambiguatedNameForm}
use Rattle.csl_entry.specs.NameProperties.{NameForms}
use Rattle.csl_context.specs.State.{Inherited}
use Rattle.csl_context.specs.Context.{ContextView}
use Rattle.csl_names.specs.Piece.{Piece, word, gap, whole, with_pieces}
use Rattle.csl_names.specs.Name.{NameStyleView, name_content}

-- The variable; the settings of each name; the text between two names; the word before the last
-- one, if there is one; when a delimiter precedes that word, and when it precedes `et al.`; whether
-- the last name is kept; which names begin with the family name; the text of `et al.`, if the style
-- has one, and its formatting.
pub record ListStyleView : Type 0 where
  pub variable : NameVariable
  pub name : NameStyleView
  pub delimiter : List ℕ
  pub and_word : Option (List ℕ)
  pub before_last : DelimiterBehavior
  pub before_et_al : DelimiterBehavior
  pub use_last : Bool
  pub order : Option NameAsSortOrder
  pub et_al : Option (List ℕ)
  pub et_al_formatting : partial.Formatting

-- ---- shown names
-- The list shows the names up to the first place without a form (`names_from`). There may be fewer
-- forms than persons, or more. Each name is in an element of its own, with the variable and the
-- place (`one_whole`), and its gaps depend on that name alone.

abbrev pub form_or_none : Option (Option DisambiguatedNameForm) → Option DisambiguatedNameForm
form_or_none None = None
form_or_none (Some form) = form

-- the form of the name at a place; there is none beyond the forms
abbrev pub form_at : NameForms → ℕ → Option DisambiguatedNameForm
form_at forms place = form_or_none (slice_get forms place)

-- the place of the first name that the forms leave out, if any
abbrev pub first_absent : NameForms → Option ℕ
first_absent forms = position (λ form. is_none form) forms

-- the number of names of a list that is shown whole
abbrev pub whole_count : Option ℕ → ℕ → Option ℕ
whole_count None count = Some count
whole_count (Some place) count = None

-- ---- order
-- A *reversed* name begins with its family name: every name under `All`, the one at place 0 under
-- `First`.

-- whether the name at a place begins with the family name
abbrev pub is_reversed : Option NameAsSortOrder → ℕ → Bool
is_reversed None place = false
is_reversed (Some First) place = place == 0
is_reversed (Some All) place = true

-- whether every name begins with the family name
abbrev pub is_all : Option NameAsSortOrder → Bool
is_all None = false
is_all (Some First) = false
is_all (Some All) = true

-- ---- before a name
-- The delimiter precedes each name but the first (`name_separator`). In a list that is shown whole,
-- if there is an `and`, the last name has a longer separator: the delimiter or a space, the word,
-- and a gap (`last_name_separator`). A delimiter precedes the word or `et al.`
-- (`delimiter_precedes`) under `Always`; never under `Never`; under `Contextual` after two names or
-- more; under `AfterInvertedName` if a name is shown and the last one shown is reversed.

-- whether a delimiter follows `names` names if `shown` of them are shown
abbrev pub delimiter_precedes : DelimiterBehavior → Option NameAsSortOrder → ℕ → ℕ → Bool
delimiter_precedes Contextual order names shown = nat_le 2 names
delimiter_precedes AfterInvertedName order names shown = nat_lt 0 shown && is_reversed order (shown - 1)
delimiter_precedes Always order names shown = true
delimiter_precedes Never order names shown = false

abbrev pub delimiter_of : ListStyleView → Piece
delimiter_of settings = word settings.delimiter no_formatting

-- the pieces before the last name: a delimiter or a space, the word and a gap; the delimiter alone
-- if there is no word
abbrev pub last_name_separator : ListStyleView → ℕ → Option (List ℕ) → List Piece
last_name_separator settings place None = delimiter_of settings ∷ []
last_name_separator settings place (Some and) =
    word (if delimiter_precedes settings.before_last settings.order place place then settings.delimiter else codes " ") no_formatting ∷ word and no_formatting ∷ gap no_formatting ∷ []

-- whether a place is the last one of a list that is shown whole
abbrev pub is_last : Option ℕ → ℕ → Bool
is_last None place = false
is_last (Some count) place = place + 1 == count

-- the pieces before the name at a place; `ends` is the number of names if all are shown
abbrev pub name_separator : ListStyleView → Option ℕ → ℕ → List Piece
name_separator settings ends place =
    if nat_lt 0 place then (if is_last ends place then last_name_separator settings place settings.and_word else delimiter_of settings ∷ []) else []

-- ---- the names

-- one name in an element of its own
abbrev pub one_whole : Inherited → ListStyleView → DisambiguatedNameForm → Bool → ℕ → PersonView → Piece
one_whole inh settings form reversed place p = whole (elem_content None (Some (of_name settings.variable place)) (name_content settings.name form reversed p inh))

-- a name that has a form, and the pieces after it; nothing if it has none
abbrev pub from_form : Inherited → ListStyleView → Option ℕ → ℕ → PersonView → List Piece → Option DisambiguatedNameForm → List Piece
from_form inh settings ends place p after None = []
from_form inh settings ends place p after (Some form) =
    name_separator settings ends place ++ (one_whole inh settings form (is_reversed settings.order place) place p ∷ after)

-- the names from a place on, up to the first without a form
abbrev pub names_from : Inherited → ListStyleView → Option ℕ → NameForms → ℕ → List PersonView → List Piece
names_from inh settings ends forms place [] = []
names_from inh settings ends forms place (p ∷ ps) =
    from_form inh settings ends place p (names_from inh settings ends forms (place + 1) ps) (form_at forms place)

-- ---- after the names
-- If the forms leave a name out, the list ends with more pieces (`list_end`). With et-al-use-last
-- and a form at the last place (`last_form`), they are the delimiter, an ellipsis and a space, and
-- the last person in that form. That person has its own place, and is reversed only under `All`
-- (`kept_last`). Else there are none in a sort key, or if the style lacks the term. Otherwise they
-- are a gap and the term, in the formatting of `et al.` (`et_al_pieces`). The delimiter is before
-- the gap, without that formatting, if `delimiter_precedes` is true for the place of the first name
-- left out and the number of persons before it.

-- `et al.` after `names` names, if `shown` of them are shown
abbrev pub et_al_pieces : ListStyleView → ℕ → ℕ → Option (List ℕ) → List Piece
et_al_pieces settings names shown None = []
et_al_pieces settings names shown (Some term) =
    (if delimiter_precedes settings.before_et_al settings.order names shown then delimiter_of settings ∷ [] else [])
    ++ (gap settings.et_al_formatting ∷ word term settings.et_al_formatting ∷ [])

-- the bytes of an ellipsis and a space
abbrev pub ellipsis : List ℕ
ellipsis = 226 ∷ 128 ∷ 166 ∷ 32 ∷ []

-- the last name, after the delimiter and an ellipsis
abbrev pub kept_last : Inherited → ListStyleView → List PersonView → DisambiguatedNameForm → Option PersonView → List Piece
kept_last inh settings persons form None = []
kept_last inh settings persons form (Some p) =
    delimiter_of settings ∷ word ellipsis no_formatting ∷ one_whole inh settings form (is_all settings.order) (length persons - 1) p ∷ []

-- the last form, if the list keeps its last name
abbrev pub last_form : ListStyleView → NameForms → Option DisambiguatedNameForm
last_form settings forms = if settings.use_last then form_at forms (length forms - 1) else None

-- the pieces after the names, if the name at place `names` is the first without a form; a sort key
-- has no `et al.`
abbrev pub cut_end : Inherited → ListStyleView → ℕ → NameForms → List PersonView → Option DisambiguatedNameForm → List Piece
cut_end inh settings names forms persons (Some form) = kept_last inh settings persons form (slice_get persons (length persons - 1))
cut_end inh settings names forms persons None = if settings.name.sorting then [] else et_al_pieces settings names (min names (length persons)) settings.et_al

abbrev pub list_end : Inherited → ListStyleView → NameForms → List PersonView → Option ℕ → List Piece
list_end inh settings forms persons None = []
list_end inh settings forms persons (Some names) = cut_end inh settings names forms persons (last_form settings forms)

-- ---- Name list

abbrev pub name_list : Inherited → ListStyleView → List PersonView → NameForms → List Piece
name_list inh settings persons forms =
    names_from inh settings (whole_count (first_absent forms) (length persons)) forms 0 persons
    ++ list_end inh settings forms persons (first_absent forms)

-- the context after one name, and after the list; a gap of the list depends on the whole innermost
-- open part
abbrev pub with_whole : {T : Type 0} → ListStyleView → DisambiguatedNameForm → Bool → ℕ → PersonView → ContextView T → ContextView T
with_whole settings form reversed place p now = with_pieces (one_whole now.inherited settings form reversed place p ∷ []) now

abbrev pub with_names : {T : Type 0} → ListStyleView → List PersonView → NameForms → ContextView T → ContextView T
with_names settings persons forms now = with_pieces (name_list now.inherited settings persons forms) now
