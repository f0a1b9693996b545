-- The *input* of a rendering is style, scope and the cite with its entry (`Instance` of
-- `csl_entry`). It never changes. A *lookup* of a variable finds nothing (no names) if the variable
-- is suppressed, else the cite's answer (CSL 1.0.2, Appendix IV, Variables). A silent lookup
-- changes nothing. A lookup for printing returns the same; then, if the switch is on, it suppresses
-- its variable, whatever it returned (`state_after_resolve`).
use Rattle.std.specs.Prelude.{ℕ, Bool, true, false, List, [], Option, None, map, option_map, if◌then◌else◌}
use Rattle.csl_common.specs.declared.form.LongShortForm.{LongShortForm}
use Rattle.csl_common.specs.declared.form.NumberForm.{NumberForm}
use Rattle.csl_common.specs.declared.ordinal.GrammarGender.{GrammarGender}
use Rattle.lit_model.specs.Date.{DateView}
use Rattle.lit_model.specs.MaybeTyped.{MaybeView}
use Rattle.lit_model.specs.Numeric.{NumericView}
use Rattle.lit_model.specs.NumericForm.{numeric_in_form}
use Rattle.lit_model.specs.Page.{PartView}
use Rattle.lit_model.specs.Person.{PersonView}
use Rattle.lit_model.specs.Text.{Chunk}
use Rattle.csl_elements.specs.declared.date.DateForm.{DateForm}
use Rattle.csl_style.specs.declared.style.settings.Scope.{Scope}
use Rattle.csl_elements.specs.declared.taxonomy.NumberVariable.{NumberVariable}
use Rattle.csl_elements.specs.declared.taxonomy.PageVariable.{PageVariable}
use Rattle.csl_elements.specs.declared.taxonomy.StandardVariable.{StandardVariable}
use Rattle.csl_elements.specs.declared.taxonomy.NameVariable.{NameVariable}
use Rattle.csl_elements.specs.declared.taxonomy.DateVariable.{DateVariable}
use Rattle.csl_elements.specs.declared.taxonomy.Variable.TheVariants as variable
use Rattle.csl_elements.specs.declared.term.Term.{Term}
use Rattle.csl_elements.specs.declared.term.TermForm.{TermForm}
use Rattle.csl_elements.specs.Lookup.{date_in_form}
use Rattle.csl_elements.specs.Locale.{TermView, terms_of, ordinals_of}
use Rattle.csl_elements.specs.Node.{DateNode}
use Rattle.csl_elements.specs.Ordinals.{ordinals, long_ordinals}
use Rattle.csl_style.specs.Style.{StyleParts}
use Rattle.csl_elements.specs.Term.{term_text, term_gender}
use Rattle.csl_elements.specs.View.{view_date}
use Rattle.csl_entry.specs.Cite.{Disambiguation, no_disambiguation, by_names, by_choose, by_year_suffix}
use Rattle.csl_entry.specs.NumberResult.{ResultView}
use Rattle.csl_entry.specs.Instance.{Instance, resolve_number, resolve_page, resolve_standard, resolve_names, resolve_date}
use Rattle.csl_context.specs.State.{State, is_suppressed}

pub record RenderInput : Type 0 where
  pub style : StyleParts
  pub scope : Scope
  pub instance : Instance

-- ---- the style

-- the terms of each locale
abbrev pub locale_terms : StyleParts → List (List TermView)
locale_terms s = map terms_of s.locales

-- the text of a term, and its gender
abbrev pub term_in : StyleParts → Term → TermForm → Bool → Option (List ℕ)
term_in s term form plural = term_text (locale_terms s) term form plural

abbrev pub gender_in : StyleParts → Term → Option GrammarGender
gender_in s term = term_gender (locale_terms s) term

-- a number in a form, with the ordinals of the style
unfoldable pub number_text : StyleParts → NumberForm → Option GrammarGender → NumericView → List ℕ
number_text s form gender v =
    numeric_in_form (ordinals (map ordinals_of s.locales)) (long_ordinals (map ordinals_of s.locales)) form gender v

-- the localized date of a form
abbrev pub localized_date : StyleParts → DateForm → Option DateNode
localized_date s form = option_map view_date (date_in_form s.locales form)

-- ---- the citation

-- whether the condition `disambiguate` of branches is true (CSL 1.0.2, Choose: disambiguate)
abbrev pub should_disambiguate : Disambiguation → Bool
should_disambiguate no_disambiguation = false
should_disambiguate (by_names p) = false
should_disambiguate by_choose = true
should_disambiguate (by_year_suffix n) = false

-- ---- Lookup: nothing if the variable is suppressed, else the cite's answer

abbrev pub peek_number : RenderInput → State → NumberVariable → Option ResultView
peek_number w s v = if is_suppressed s (variable.Number v) then None else resolve_number w.instance v

abbrev pub peek_page : RenderInput → State → PageVariable → Option (MaybeView (List PartView))
peek_page w s v = if is_suppressed s (variable.Page v) then None else resolve_page w.instance v

abbrev pub peek_standard : RenderInput → State → LongShortForm → StandardVariable → Option (List Chunk)
peek_standard w s form v = if is_suppressed s (variable.Standard v) then None else resolve_standard w.instance form v

abbrev pub peek_names : RenderInput → State → NameVariable → List PersonView
peek_names w s v = if is_suppressed s (variable.Name v) then [] else resolve_names w.instance v

abbrev pub peek_date : RenderInput → State → DateVariable → Option DateView
peek_date w s v = if is_suppressed s (variable.Date v) then None else resolve_date w.instance v
