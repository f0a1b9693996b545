-- The content of a names node that has persons, and the state that it leaves (CSL 1.0.2, Names;
-- Label in Names; Affixes; Display; Name, `form`).
use Rattle.std.specs.Prelude.{ℕ, ◌+◌, Bool, true, false, not, ◌&&◌, ◌||◌, ◌==◌, List, [], ◌∷◌, length, Option, Some, None, is_some, slice_get, decimal, if◌then◌else◌, option_map}
use Rattle.std.specs.Option.{unwrap_or, option_or}
use Rattle.lit_model.specs.Person.{PersonView}
use Rattle.csl_elements.specs.declared.names.NameForm.{NameForm}
use Rattle.csl_elements.specs.declared.names.NameForm.TheVariants.{Count, Short, Long}
use Rattle.csl_elements.specs.declared.taxonomy.NameVariable.{NameVariable}
use Rattle.csl_elements.specs.declared.term.Term.TheVariants as terms
use Rattle.csl_elements.specs.NamesOptions.{PartialOptions, CompleteOptions, apply_options, with_defaults, names_delimiter_of, complete_options}
use Rattle.csl_elements.specs.Names.{NameNode, EtAlNode, LabelNode, NamesLabel, NamesNode, first_name, view_name, view_et_al}
use Rattle.csl_elements.specs.NamesParts.{default_name, default_et_al, placed_label}
use Rattle.csl_style.specs.Style.{StyleParts}
use Rattle.csl_tree.specs.Tokens.{Token, Meta, of_names}
use Rattle.csl_tree.specs.Content.{◌++>◌, elem_content}
use Rattle.csl_entry.specs.Cite.{CiteState}
use Rattle.csl_entry.specs.NameProperties.{NameForms}
use Rattle.csl_context.specs.State.{State, Inherited, with_node_formatting}
use Rattle.csl_context.specs.Texts.{text_in, between_in, affixed_in}
use Rattle.csl_context.specs.Context.{ContextView}
use Rattle.csl_context.specs.RenderInput.{term_in}
use Rattle.csl_names.specs.Piece.{append_pieces}
use Rattle.csl_names.specs.List.{name_list}
use Rattle.csl_names.specs.ListStyles.{list_style}
use Rattle.csl_names.specs.NamesLists.{PersonLists}
use Rattle.csl_names.specs.NamesForms.{count_of, saturated_count}
use Rattle.csl_names.specs.NamesKept.{forms_in, with_first_forms, with_first_forms_by}
use Rattle.csl_names.specs.declared.names.written.NamesStyle.{NamesStyle}

-- ---- settings of the lists
-- The first Name, Et-al and Label among the children count. Options are those of the Name over
-- those of the node over the inherited ones. The text between two lists is the names delimiter of
-- the Name, else the delimiter of the node, else that of the node's options over the inherited
-- ones.

-- the name, its options, et al., the label, and the delimiter between two lists
pub record NamesStyleView : Type 0 where
  pub name : NameNode
  pub options : CompleteOptions
  pub et_al : EtAlNode
  pub label : Option NamesLabel
  pub delimiter : List ℕ

abbrev pub name_of : NamesNode → NameNode
name_of n = unwrap_or (first_name n) default_name

-- the options that are set: those of the name, over those of the node, over the inherited ones
abbrev pub set_options : NamesNode → PartialOptions → PartialOptions
set_options n inherited = apply_options (name_of n).options (apply_options n.options inherited)

-- the node's own delimiter counts before the one among its options
abbrev pub lists_delimiter : NamesNode → PartialOptions → List ℕ
lists_delimiter n inherited =
    unwrap_or (option_or (name_of n).options.names_delimiter n.delimiter) (names_delimiter_of (apply_options n.options inherited))

abbrev pub names_style : NamesNode → PartialOptions → NamesStyleView
names_style n inherited = record {
  name = name_of n;
  options = with_defaults (set_options n inherited);
  et_al = unwrap_or n.et_al default_et_al;
  label = n.label;
  delimiter = lists_delimiter n inherited;
}

-- ---- the input of the lists

-- what the lists read of a context: the style, whether they are for a sort key, the cite, and the
-- inherited values
pub record NamesInput : Type 0 where
  pub style : StyleParts
  pub sorting : Bool
  pub cite : CiteState
  pub inherited : Inherited

abbrev pub names_input : {T : Type 0} → ContextView T → NamesInput
names_input now = record { style = now.style; sorting = is_some now.sorting; cite = now.cite; inherited = now.inherited }

-- the context in which the content of the innermost part is changed by this input
abbrev pub with_names_written : {T : Type 0} → (NamesInput → List Token → List Token) → ContextView T → ContextView T
with_names_written f now = record now { inner = f (names_input now) now.inner }

-- ---- labels
-- The label of a list is the affixed term of its variable, in the label's formatting, in the plural
-- unless there is one person. The label's strip-periods applies to the term alone. Nothing is
-- written if the style lacks the term, or in a sort key. A label is after the names if a name child
-- comes before it. It has no box.

-- the inherited values of a label's term: the label's formatting, and stripping for the term alone
abbrev pub in_label : LabelNode → Inherited → Inherited
in_label l inh = record (with_node_formatting l.formatting inh) { strip_periods = l.strip_periods || inh.strip_periods }

abbrev pub label_content : LabelNode → List ℕ → Inherited → List Token
label_content l term inh = affixed_in (with_node_formatting l.formatting inh) l.affixes (text_in (in_label l inh) term)

-- the term of the label of a list: that of its variable, in the plural unless there is one person
abbrev pub list_term : StyleParts → LabelNode → NameVariable → ℕ → Option (List ℕ)
list_term style l v count = term_in style (terms.Name v) l.form (not (count == 1))

-- the label, if it is on this side of the names, and not in a sort key
abbrev pub label_on : Bool → Bool → Option NamesLabel → Option LabelNode
label_on sorting after None = None
label_on true after (Some l) = None
label_on false true (Some l) = if l.is_after then Some l.label else None
label_on false false (Some l) = if l.is_after then None else Some l.label

-- a content with a label after it, unless the style lacks the term
abbrev pub with_term : LabelNode → Option (List ℕ) → Inherited → List Token → List Token
with_term l None inh ts = ts
with_term l (Some term) inh ts = ts ++> label_content l term inh

-- a content with a label after it, if there is one
abbrev pub with_label : NamesInput → Option LabelNode → NameVariable → ℕ → List Token → List Token
with_label w None v count ts = ts
with_label w (Some l) v count ts = with_term l (list_term w.style l v count) w.inherited ts

-- ---- lists
-- A list is the label before it, the names in the formatting of the Name, and the label after it
-- (`with_labelled_list`). A list that is empty or has no forms is left out, and takes no delimiter
-- (`with_lists`).

-- whether a list is left out: it is empty, or has no forms
abbrev pub is_skipped : List PersonView → Option NameForms → Bool
is_skipped persons None = true
is_skipped [] (Some forms) = true
is_skipped (p ∷ ps) (Some forms) = false

module _ (w : NamesInput) (settings : NamesStyleView) where
  -- a content with the names of a list after it, in the formatting of the Name
  abbrev pub with_list : List PersonView → NameVariable → NameForms → List Token → List Token
  with_list persons v forms ts =
      append_pieces (with_node_formatting settings.name.formatting w.inherited)
      (name_list (with_node_formatting settings.name.formatting w.inherited) (list_style w.style w.sorting settings.name settings.options settings.et_al v) persons forms) ts

  -- a content with a list after it: the delimiter, unless the list is the first; label, names,
  -- label
  unfoldable pub with_labelled_list : Bool → List PersonView → NameVariable → NameForms → List Token → List Token
  with_labelled_list first persons v forms ts =
      with_label w (label_on w.sorting true settings.label) v (length persons)
      (with_list persons v forms
      (with_label w (label_on w.sorting false settings.label) v (length persons)
      (if first then ts else ts ++> text_in w.inherited settings.delimiter)))

  -- a content with a list after it, unless the list is left out
  abbrev pub with_list_if_any : Bool → List PersonView → NameVariable → Option NameForms → List Token → List Token
  with_list_if_any first persons v None ts = ts
  with_list_if_any first [] v (Some forms) ts = ts
  with_list_if_any first (p ∷ ps) v (Some forms) ts = with_labelled_list first (p ∷ ps) v forms ts

  -- the lists from a place on, each with the forms at its place; `first` is true while none is
  -- written
  abbrev pub with_lists : Bool → ℕ → List NameForms → PersonLists → List Token → List Token
  with_lists first place forms [] ts = ts
  with_lists first place forms (l ∷ ls) ts =
      with_lists (first && is_skipped l.0 (slice_get forms place)) (place + 1) forms ls
      (with_list_if_any first l.0 l.1 (slice_get forms place) ts)

  -- all lists, in the forms that a node of these variables uses
  abbrev pub with_all_lists : List NameVariable → PersonLists → List Token → List Token
  with_all_lists vs ls ts = with_lists true 0 (forms_in w.cite vs settings.options ls).lists ls ts

-- ---- the node
-- A box of the node's display, in its formatting, around the affixes. Between them are the lists in
-- their forms, or, if the form is the count, the number of names, whatever forms the citation has.
-- The meta of the box is the lists. The state after it keeps the forms of the first names, unless
-- they are counted (`names_state`).

module _ (w : NamesInput) (settings : NamesStyleView) (vs : List NameVariable) (ls : PersonLists) where
  abbrev pub body_in_form : NameForm → List Token
  body_in_form Count = text_in w.inherited (decimal (saturated_count (count_of settings.options (not w.cite.is_first) ls)))
  body_in_form Short = with_all_lists w settings vs ls []
  body_in_form Long = with_all_lists w settings vs ls []

  -- the content between the affixes: the number of names, or the names
  abbrev pub names_body : List Token
  names_body = body_in_form settings.options.form

  -- the state after them
  abbrev pub names_body_state : State → State
  names_body_state s = with_first_forms_by settings.options.form (forms_in w.cite vs settings.options ls) s

-- the meta of a names node's box
abbrev pub lists_meta : PersonLists → Option Meta
lists_meta ls = Some (of_names ls)

-- the box of a names node that has persons, with the affixed lists, in a style and a cite, for a
-- sort key or not
abbrev pub names_content : StyleParts → Bool → CiteState → NamesNode → PersonLists → Inherited → List Token
names_content style sorting cite n ls inh = elem_content n.dressing.display (lists_meta ls)
    (affixed_in (with_node_formatting n.dressing.formatting inh) n.dressing.affixes
    (names_body (record { style = style; sorting = sorting; cite = cite; inherited = with_node_formatting n.dressing.formatting inh }) (names_style n inh.options) n.variables ls))

-- the state after the node: it keeps the forms of the first names that are not counted
abbrev pub names_state : CiteState → NamesNode → PersonLists → Inherited → State → State
names_state cite n ls inh s =
    with_first_forms_by (names_style n inh.options).options.form (forms_in cite n.variables (names_style n inh.options).options ls) s

-- ---- contexts

-- the context after all lists; it keeps their forms if it keeps none yet
abbrev pub with_lists_kept : {T : Type 0} → NamesStyleView → List NameVariable → PersonLists → ContextView T → ContextView T
with_lists_kept settings vs ls now = record now {
  inner = with_all_lists (names_input now) settings vs ls now.inner;
  state = with_first_forms (forms_in now.cite vs settings.options ls) now.state;
}

-- the context after the number of names, or the names, in an empty part
abbrev pub with_names_body : {T : Type 0} → NamesStyleView → List NameVariable → PersonLists → ContextView T → ContextView T
with_names_body settings vs ls now = record now {
  inner = names_body (names_input now) settings vs ls;
  state = names_body_state (names_input now) settings vs ls now.state;
}

-- the same between affixes
abbrev pub with_affixed_body : {T : Type 0} → Option (List ℕ) → Option (List ℕ) → NamesStyleView → List NameVariable → PersonLists → ContextView T → ContextView T
with_affixed_body prefix suffix settings vs ls now = record now {
  inner = between_in now.inherited prefix suffix (names_body (names_input now) settings vs ls);
  state = names_body_state (names_input now) settings vs ls now.state;
}

abbrev pub names_style_view : NamesStyle → NamesStyleView
names_style_view s = record {
  name = view_name s.name.now;
  options = complete_options s.options;
  et_al = view_et_al s.et_al.now;
  label = option_map placed_label s.label;
  delimiter = s.delimiter.now;
}
