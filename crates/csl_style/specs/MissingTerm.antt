-- The terms that a layout *asks for* in itself and in the macros that it reaches (CSL 1.0.2, Terms;
-- Text; Label; Locators; Date; Name: and; Et-al; Substitute; Formatting: quotes), in written order
-- (`asked_terms`); those of them that no locale has, in their form or in a form that this falls back
-- to, each once (`missing_terms`); and the first of these (`missing_term`).
-- - A text of a term asks for the term in its form. A text in quotes asks for the two quotes before
--   what is inside them: for the inner ones inside an odd number of quotes, else for the outer ones.
-- - A label asks for the term of its variable in its form. The kind of a locator is the cite's, so a
--   label of the locator asks for the term of each kind but the custom one, which has none.
-- - A date asks for what each of its parts may need: a year for the two eras, a month, in whose place
--   a season is written, for the short terms of the four seasons. With a form, its parts are those of
--   the localized date.
-- - A names node asks, with a label, for the term of each of its variables in the label's form. It
--   asks for `and` if its name writes it as a word, by the first of these that sets `and`: its first
--   name child, the node, each names node in whose substitute it is, from the inside out, and the
--   style. A layout may be rendered for both scopes, so the style writes the word if one of its
--   scopes does. The node asks for the term of its et-al child, else for `et-al`. A label before the
--   names comes first and one after them last. Then the substitutes ask.
-- - A names node without children in a substitute asks as it is rendered, with the name, et-al and
--   label of the names around it.
-- Every branch counts, chosen or not, and so does every substitute. What is asked for some entries
-- only counts: `and` is asked for where there are two names, et al. where names are left out, which a
-- cite may do by itself, and an era beside early years. Months, which print as numbers, the delimiter
-- of page ranges, numbers and ordinals are not among these terms. Nor is `editortranslator`, which
-- adds no text: with it, editors and translators who are the same persons print as one list.
use Rattle.std.specs.Prelude.{ℕ, Bool, true, false, not, ◌||◌, ◌&&◌, is_none, List, [], ◌∷◌, ◌++◌, map, flat_map, filter, find, Option, Some, None, if◌then◌else◌}
use Rattle.std.specs.List.{fold, list_any}
use denote.Enum.Bare.{sameb}
use Rattle.csl_common.specs.declared.season.Season.TheVariants.{Spring, Summer, Autumn, Winter}
use Rattle.csl_elements.specs.contracts.taxonomy.NumberVariable.{the_type as the_number}
use Rattle.csl_elements.specs.contracts.term.TermForm.{the_type as the_form}
use Rattle.csl_elements.specs.declared.date.Date.{Date}
use Rattle.csl_elements.specs.declared.date.DateForm.{DateForm}
use Rattle.csl_elements.specs.declared.date.DatePartName.{DatePartName}
use Rattle.csl_elements.specs.declared.date.DatePartName.TheVariants.{Day, Month, Year}
use Rattle.csl_elements.specs.declared.element.Layout.{Layout}
use Rattle.csl_elements.specs.declared.locale.Locale.{Locale}
use Rattle.csl_elements.specs.declared.names.NameAnd.{NameAnd}
use Rattle.csl_elements.specs.declared.names.NameAnd.TheVariants as and
use Rattle.csl_elements.specs.declared.taxonomy.Locator.{Locator as LocatorKind}
use Rattle.csl_elements.specs.declared.taxonomy.Locator.TheVariants as kind
use Rattle.csl_elements.specs.declared.taxonomy.NameVariable.{NameVariable}
use Rattle.csl_elements.specs.declared.taxonomy.NumberOrPageVariable.{NumberOrPageVariable}
use Rattle.csl_elements.specs.declared.taxonomy.NumberOrPageVariable.TheVariants as number_or_page
use Rattle.csl_elements.specs.declared.taxonomy.NumberVariable.TheVariants.{Locator}
use Rattle.csl_elements.specs.declared.term.OtherTerm.{OtherTerm}
use Rattle.csl_elements.specs.declared.term.OtherTerm.TheVariants.{And, EtAl, Ad, Bc, OpenQuote, CloseQuote, OpenInnerQuote, CloseInnerQuote, Season}
use Rattle.csl_elements.specs.declared.term.Term.{Term}
use Rattle.csl_elements.specs.declared.term.Term.TheVariants as terms
use Rattle.csl_elements.specs.declared.term.TermForm.{TermForm}
use Rattle.csl_elements.specs.declared.term.TermForm.TheVariants.{Long, Short}
use Rattle.csl_elements.specs.Lookup.{date_in_form}
use Rattle.csl_elements.specs.Locale.{terms_of}
use Rattle.csl_elements.specs.Names.{NameNode, EtAlNode, LabelNode, NamesLabel, NamesNode, first_name}
use Rattle.csl_elements.specs.Node.{DateNode, DatePartNode, Target, of_variable, of_term, of_value, ExpandedNode, expanded_text, expanded_macro, unknown_macro, expanded_number, expanded_label, expanded_date, expanded_names, shorthand, expanded_choose, expanded_group, ExpandedNodes, no_expanded_nodes, expanded_node, ExpandedBranches, no_expanded_branches, expanded_otherwise, expanded_branch, ExpandedSubstitutes, no_expanded_substitutes, expanded_substitute, expand_substitute_nodes, expand_layout}
use Rattle.csl_elements.specs.Term.{term_text, same_term}
use Rattle.csl_elements.specs.View.{NamesChildView, a_substitute, view_date, view_layout}
use Rattle.csl_style.specs.declared.missing_term.TermScope.{TermScope}
use Rattle.csl_style.specs.declared.style.settings.Scope.TheVariants.{Citation, Bibliography}
use Rattle.csl_style.specs.declared.style.settings.StyleSettings.{StyleSettings}
use Rattle.csl_style.specs.Expanded.{macro_env}
use Rattle.csl_style.specs.Scopes.{base_options}
use Rattle.csl_style.specs.Style.{StyleParts}

-- a term in a form
abbrev pub AskedTerm : Type 0
AskedTerm = Term × TermForm

-- a term that names no variable, in the long form
abbrev pub long_form : OtherTerm → AskedTerm
long_form t = (terms.Other t, Long)

-- ---- texts, labels and dates

abbrev pub asked_in_target : Target → List AskedTerm
asked_in_target (of_variable v form) = []
asked_in_target (of_term t form plural) = (t, form) ∷ []
asked_in_target (of_value bs) = []

abbrev pub asked_in_two_quotes : Bool → List AskedTerm
asked_in_two_quotes in_quotes = if in_quotes then long_form OpenInnerQuote ∷ long_form CloseInnerQuote ∷ [] else long_form OpenQuote ∷ long_form CloseQuote ∷ []

-- by the quotes of a text, if it has them
abbrev pub asked_in_quotes : Bool → Bool → List AskedTerm
asked_in_quotes quotes in_quotes = if quotes then asked_in_two_quotes in_quotes else []

-- the kinds of locators that have a term
unfoldable pub kinds_with_term : List LocatorKind
kinds_with_term =
    kind.Act ∷ kind.Appendix ∷ kind.Book ∷ kind.Canon ∷ kind.Chapter ∷ kind.Column ∷ kind.Equation ∷ kind.Figure ∷ kind.Folio
    ∷ kind.Issue ∷ kind.Line ∷ kind.Note ∷ kind.Number ∷ kind.Opus ∷ kind.Page ∷ kind.Paragraph ∷ kind.Part ∷ kind.Rule
    ∷ kind.Scene ∷ kind.Section ∷ kind.SubVerbo ∷ kind.Supplement ∷ kind.Table ∷ kind.Timestamp ∷ kind.Verse ∷ kind.Version
    ∷ kind.Volume ∷ []

-- the term of each kind, in a form
abbrev pub kind_terms : TermForm → List LocatorKind → List AskedTerm
kind_terms form kinds = map (λ k. (terms.Locator k, form)) kinds

abbrev pub asked_in_label : NumberOrPageVariable → TermForm → List AskedTerm
asked_in_label (number_or_page.Number v) form = if sameb the_number v Locator then kind_terms form kinds_with_term else (terms.Number v, form) ∷ []
asked_in_label (number_or_page.Page v) form = (terms.Page v, form) ∷ []

abbrev pub asked_in_part : DatePartName → List AskedTerm
asked_in_part Day = []
asked_in_part Month = (terms.Other (Season Spring), Short) ∷ (terms.Other (Season Summer), Short) ∷ (terms.Other (Season Autumn), Short) ∷ (terms.Other (Season Winter), Short) ∷ []
asked_in_part Year = long_form Ad ∷ long_form Bc ∷ []

abbrev pub asked_in_parts : List DatePartNode → List AskedTerm
asked_in_parts ps = flat_map (λ p. asked_in_part p.name) ps

abbrev pub asked_in_localized : Option Date → List AskedTerm
asked_in_localized None = []
asked_in_localized (Some d) = asked_in_parts (view_date d).date_part

-- by the parts of a date of this form, or of one without a form
abbrev pub asked_in_form : List Locale → List DatePartNode → Option DateForm → List AskedTerm
asked_in_form ls own None = asked_in_parts own
asked_in_form ls own (Some form) = asked_in_localized (date_in_form ls form)

abbrev pub asked_in_date : List Locale → DateNode → List AskedTerm
asked_in_date ls d = asked_in_form ls d.date_part d.form

-- ---- names

-- whether `and` is written as a word: by the option if it is set, else as inherited
abbrev pub and_is_a_word : Option NameAnd → Bool → Bool
and_is_a_word None inherited = inherited
and_is_a_word (Some and.Text) inherited = true
and_is_a_word (Some and.Symbol) inherited = false

abbrev pub and_of_name : Option NameNode → Option NameAnd
and_of_name None = None
and_of_name (Some n) = n.options.and

abbrev pub asked_in_and : Bool → List AskedTerm
asked_in_and writes = if writes then long_form And ∷ [] else []

abbrev pub et_al_term : Option EtAlNode → OtherTerm
et_al_term None = EtAl
et_al_term (Some e) = e.term

-- the label, if it is on that side of the names: after them if `after`
abbrev pub label_on : Bool → Option NamesLabel → Option LabelNode
label_on after None = None
label_on true (Some l) = if l.is_after then Some l.label else None
label_on false (Some l) = if l.is_after then None else Some l.label

-- by a label of these variables, if there is one
abbrev pub asked_in_names_label : Option LabelNode → List NameVariable → List AskedTerm
asked_in_names_label None vs = []
asked_in_names_label (Some l) vs = map (λ v. (terms.Name v, l.form)) vs

-- by names without their substitutes; `inherited` is whether they write `and` as a word unless they
-- set otherwise
abbrev pub asked_in_names : Bool → NamesNode → List AskedTerm
asked_in_names inherited n =
    asked_in_names_label (label_on false n.label) n.variables
    ++ (asked_in_and (and_is_a_word (and_of_name (first_name n)) (and_is_a_word n.options.and inherited))
    ++ (long_form (et_al_term n.et_al) ∷ asked_in_names_label (label_on true n.label) n.variables))

-- ---- nodes, with all macros expanded, by what is around them

-- inside a text, in quotes or not
abbrev pub in_text : Bool → TermScope → TermScope
in_text quotes a = record { and_is_a_word = a.and_is_a_word; in_quotes = if quotes then not a.in_quotes else a.in_quotes }

-- inside the substitutes of names
abbrev pub in_substitutes : NamesNode → TermScope → TermScope
in_substitutes n a = record { and_is_a_word = and_is_a_word n.options.and a.and_is_a_word; in_quotes = a.in_quotes }

abbrev mutual
  pub asked_in_node : List Locale → TermScope → ExpandedNode → List AskedTerm
  asked_in_node ls a (expanded_text t d) = asked_in_quotes d.quotes a.in_quotes ++ asked_in_target t
  asked_in_node ls a (expanded_macro fs d) = asked_in_quotes d.quotes a.in_quotes ++ asked_in_nodes ls (in_text d.quotes a) fs
  asked_in_node ls a unknown_macro = []
  asked_in_node ls a (expanded_number n) = []
  asked_in_node ls a (expanded_label v l) = asked_in_label v l.form
  asked_in_node ls a (expanded_date d) = asked_in_date ls d
  asked_in_node ls a (expanded_names n is) = asked_in_names a.and_is_a_word n ++ asked_in_substitutes ls (in_substitutes n a) is
  asked_in_node ls a (shorthand written n) = asked_in_names a.and_is_a_word n
  asked_in_node ls a (expanded_choose cs) = asked_in_branches ls a cs
  asked_in_node ls a (expanded_group delimiter d fs) = asked_in_nodes ls a fs

  pub asked_in_nodes : List Locale → TermScope → ExpandedNodes → List AskedTerm
  asked_in_nodes ls a no_expanded_nodes = []
  asked_in_nodes ls a (expanded_node f fs) = asked_in_node ls a f ++ asked_in_nodes ls a fs

  -- every branch, chosen or not
  pub asked_in_branches : List Locale → TermScope → ExpandedBranches → List AskedTerm
  asked_in_branches ls a no_expanded_branches = []
  asked_in_branches ls a (expanded_otherwise fs) = asked_in_nodes ls a fs
  asked_in_branches ls a (expanded_branch ts fs cs) = asked_in_nodes ls a fs ++ asked_in_branches ls a cs

  -- every substitute, also those that are never rendered
  pub asked_in_substitutes : List Locale → TermScope → ExpandedSubstitutes → List AskedTerm
  asked_in_substitutes ls a no_expanded_substitutes = []
  asked_in_substitutes ls a (expanded_substitute fs is) = asked_in_nodes ls a fs ++ asked_in_substitutes ls a is

-- by a child of names as written; only a substitute asks; only private contracts cite it
abbrev pub asked_in_child : List Locale → (List ℕ → Option ExpandedNodes) → NamesNode → TermScope → NamesChildView → List AskedTerm
asked_in_child ls env original a (a_substitute ns) = asked_in_nodes ls a (expand_substitute_nodes env original ns)
asked_in_child ls env original a other = []

-- ---- layouts

-- Around a layout, `and` is a word if it is in one of the two scopes, unless names set otherwise.
abbrev pub scope_of_layout : StyleSettings → TermScope
scope_of_layout s = record {
  and_is_a_word = and_is_a_word (base_options Citation s).and false || and_is_a_word (base_options Bibliography s).and false;
  in_quotes = false;
}

abbrev pub asked_terms : StyleParts → Layout → List AskedTerm
asked_terms s l = asked_in_nodes s.locales (scope_of_layout s.settings) (expand_layout (macro_env s) (view_layout l)).elements

-- ---- which of them are missing

-- no locale has the term in its form or in a form that this falls back to
abbrev pub is_missing : List Locale → AskedTerm → Bool
is_missing ls t = is_none (term_text (map terms_of ls) t.0 t.1 false)

-- the term is in the list, in this form
abbrev pub has_asked : AskedTerm → List AskedTerm → Bool
has_asked t ts = list_any (λ u. same_term u.0 t.0 && sameb the_form u.1 t.1) ts

-- the list, and at its end the term if it is not in it
abbrev pub with_asked : List AskedTerm → AskedTerm → List AskedTerm
with_asked ts t = if has_asked t ts then ts else ts ++ t ∷ []

-- each term once, in the order of the list
abbrev pub each_once : List AskedTerm → List AskedTerm
each_once ts = fold with_asked [] ts

-- the asked terms that no locale has
abbrev pub missing_terms : StyleParts → Layout → List AskedTerm
missing_terms s l = each_once (filter (is_missing s.locales) (asked_terms s l))

-- the first of them
abbrev pub missing_term : StyleParts → Layout → Option AskedTerm
missing_term s l = find (is_missing s.locales) (asked_terms s l)
