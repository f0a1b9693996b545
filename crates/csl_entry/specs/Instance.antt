-- An instance is a cite with its entry: the entry's answers, the citation state, the source of its
-- sort key if the cite is sorted, and the special form if not all of it is rendered. A *lookup*
-- returns the answer of an instance to a variable, by one function for each sort of variable (CSL
-- 1.0.2, Appendix IV, Variables; Locators; Disambiguation, `disambiguate-add-year-suffix`).
-- The citation answers four variables, and the entry answers all others:
-- - the citation number, one higher than in the citation state, and the first reference note
--   number;
-- - the locator: a number if its text spells one, else the text, or the cite's index if the caller
--   writes it;
-- - the year suffix: one normal chunk of its letters, if the cite has one.
-- A lookup depends only on the citation state and on the entry's answer to that variable. For the
-- citation's variables it reads no answer of the entry (`SameNumber`, `SameStandard`,
-- `SameNumberOrPage`).
use Rattle.std.specs.Prelude.{◌≡◌, ℕ, false, ◌+◌, List, Option, Some, None, option_map, pos}
use Rattle.csl_elements.specs.declared.taxonomy.NumberVariable.{NumberVariable}
use Rattle.csl_elements.specs.declared.taxonomy.NumberVariable.TheVariants.{CitationNumber, FirstReferenceNoteNumber, Locator}
use Rattle.csl_elements.specs.declared.taxonomy.PageVariable.{PageVariable}
use Rattle.csl_elements.specs.declared.taxonomy.NumberOrPageVariable.{NumberOrPageVariable}
use Rattle.csl_elements.specs.declared.taxonomy.NumberOrPageVariable.TheVariants as number_or_page
use Rattle.csl_elements.specs.declared.taxonomy.StandardVariable.{StandardVariable}
use Rattle.csl_elements.specs.declared.taxonomy.StandardVariable.TheVariants.{YearSuffix}
use Rattle.csl_elements.specs.declared.taxonomy.NameVariable.{NameVariable}
use Rattle.csl_elements.specs.declared.taxonomy.DateVariable.{DateVariable}
use Rattle.csl_elements.specs.declared.taxonomy.Variable.TheVariants as variable
use Rattle.csl_elements.specs.Taxonomy.{is_of_citation}
use Rattle.lit_model.specs.declared.text.ChunkKind.TheVariants.{Normal}
use Rattle.csl_common.specs.declared.form.LongShortForm.{LongShortForm}
use Rattle.lit_model.specs.Date.{DateView}
use Rattle.lit_model.specs.MaybeTyped.{MaybeView, typed}
use Rattle.lit_model.specs.Numeric.{one}
use Rattle.lit_model.specs.Page.{PartView}
use Rattle.lit_model.specs.Person.{PersonView}
use Rattle.lit_model.specs.Text.{Chunk}
use Rattle.csl_entry.specs.declared.citation.cite.Sorting.{Sorting}
use Rattle.csl_entry.specs.declared.citation.cite.SpecialForm.{SpecialForm}
use Rattle.csl_entry.specs.declared.citation.instance.InstanceContext.{InstanceContext}
use Rattle.csl_entry.specs.Answers.{Answers, one_chunk, numeric_or_text}
use Rattle.csl_entry.specs.Cite.{CiteState, cite_state, Payload, payload_text, payload_transparent, Disambiguation, no_disambiguation, by_names, by_choose, by_year_suffix}
use Rattle.csl_entry.specs.Letters.{letters}
use Rattle.csl_entry.specs.NumberResult.{ResultView, regular, transparent, NumberOrPageView, number, page}

-- a cite with its entry, as plain data
pub record Instance : Type 0 where
  pub answers : Answers
  pub cite : CiteState
  pub sorting : Option Sorting
  pub special : Option SpecialForm

-- the instance of a cite whose entry has the answers that this function gives
abbrev pub instance_of : {T : Type 0} → (T → Answers) → InstanceContext T → Instance
instance_of answers cite = record {
  answers = answers cite.entry.now;
  cite = cite_state cite.cite_props.now;
  sorting = cite.sorting;
  special = cite.kind;
}

-- a number without prefix and suffix
abbrev pub plain_number : ℕ → ResultView
plain_number n = regular (typed (record { value = one (pos n); prefix = None; suffix = None }))

-- the answer of a locator: a number if its text spells one, else the text; or the index of the
-- cite, if the caller writes the locator
abbrev pub locator_answer : ℕ → Payload → ResultView
locator_answer index (payload_text bytes) = regular (numeric_or_text bytes)
locator_answer index payload_transparent = transparent index

-- the letters of a year suffix, if the cite has one
abbrev pub year_suffix : Disambiguation → Option (List Chunk)
year_suffix no_disambiguation = None
year_suffix (by_names forms) = None
year_suffix by_choose = None
year_suffix (by_year_suffix n) = Some (one_chunk Normal (letters n))

-- ---- lookups: the cite's answer to a variable

-- a citation number counts from 0 and is printed one higher
abbrev pub resolve_number : Instance → NumberVariable → Option ResultView
resolve_number i CitationNumber = Some (plain_number (i.cite.citation_number + 1))
resolve_number i FirstReferenceNoteNumber = option_map plain_number i.cite.first_note
resolve_number i Locator = option_map (λ place. locator_answer i.cite.initial_index place.payload) i.cite.locator
resolve_number i other = option_map regular (i.answers.numbers other)

abbrev pub resolve_page : Instance → PageVariable → Option (MaybeView (List PartView))
resolve_page i v = i.answers.pages v

abbrev pub resolve_number_or_page : Instance → NumberOrPageVariable → Option NumberOrPageView
resolve_number_or_page i (number_or_page.Number v) = option_map number (resolve_number i v)
resolve_number_or_page i (number_or_page.Page v) = option_map page (resolve_page i v)

abbrev pub resolve_standard : Instance → LongShortForm → StandardVariable → Option (List Chunk)
resolve_standard i form YearSuffix = year_suffix i.cite.disambiguation
resolve_standard i form other = i.answers.standards form other

abbrev pub resolve_names : Instance → NameVariable → List PersonView
resolve_names i v = i.answers.names v

abbrev pub resolve_date : Instance → DateVariable → Option DateView
resolve_date i v = i.answers.dates v

-- ---- A lookup depends on the citation state and, unless the variable is the citation's, on the
-- entry's answer to it.

abbrev pub SameNumber : Instance → Instance → NumberVariable → Type 0
SameNumber i j v = is_of_citation (variable.Number v) ≡ false → i.answers.numbers v ≡ j.answers.numbers v

abbrev pub SameStandard : Instance → Instance → LongShortForm → StandardVariable → Type 0
SameStandard i j form v = is_of_citation (variable.Standard v) ≡ false → i.answers.standards form v ≡ j.answers.standards form v

abbrev pub SameNumberOrPage : Instance → Instance → NumberOrPageVariable → Type 0
SameNumberOrPage i j (number_or_page.Number v) = SameNumber i j v
SameNumberOrPage i j (number_or_page.Page v) = i.answers.pages v ≡ j.answers.pages v
