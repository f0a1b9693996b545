-- A term is looked up in the locales of a style (CSL 1.0.2, Terms; Locale), form by form: long
-- alone; short, then long; verb, then long; short verb, then verb, then long; symbol, then short,
-- then long. Each form is looked up in the locales in order, and in a locale in the order of its
-- terms. The first match counts.
-- The plural text of an entry is its own if it has one, else its singular text. The gender of a
-- term is that of its first long entry, over the locales in order, that has a gender.
use Rattle.std.specs.Prelude.{ℕ, Bool, ◌&&◌, List, [], ◌∷◌, Option, None, option_map, unwrap_or, find, if◌then◌else◌}
use denote.Enum.Bare.{sameb}
use Rattle.csl_common.specs.declared.ordinal.GrammarGender.{GrammarGender}
use Rattle.csl_elements.specs.declared.term.Term.{Term}
use Rattle.csl_elements.specs.declared.term.TermForm.{TermForm}
use Rattle.csl_elements.specs.declared.term.TermForm.TheVariants.{Long, Short, Verb, VerbShort, Symbol}
use Rattle.csl_elements.specs.contracts.term.TermPartialEq.TheImpl.{eq-value}
use Rattle.csl_elements.specs.contracts.term.TermForm.{the_type}
use Rattle.csl_common.specs.Lists.{first_some}
use Rattle.csl_elements.specs.Locale.{TermView}

-- the two terms are equal by `==`
abbrev pub same_term : Term → Term → Bool
same_term = eq-value.it

-- the forms in which a term is looked up, in this order
abbrev pub forms_for : TermForm → List TermForm
forms_for Long = Long ∷ []
forms_for Short = Short ∷ Long ∷ []
forms_for Verb = Verb ∷ Long ∷ []
forms_for VerbShort = VerbShort ∷ Verb ∷ Long ∷ []
forms_for Symbol = Symbol ∷ Short ∷ Long ∷ []

-- the entry is of this term in this form
abbrev pub is_term : Term → TermForm → TermView → Bool
is_term term form t = same_term t.term term && sameb the_type t.form form

-- the first entry of the term in that form, over the locales in order
abbrev pub in_form : List (List TermView) → Term → TermForm → Option TermView
in_form locales term form = first_some (find (is_term term form)) locales

-- the first entry that is found in the order of the forms
abbrev pub found_term : List (List TermView) → Term → TermForm → Option TermView
found_term locales term form = first_some (in_form locales term) (forms_for form)

-- the text of an entry: for the plural its plural text if it has one, else its singular text
abbrev pub entry_text : Bool → TermView → List ℕ
entry_text plural t = if plural then unwrap_or t.multiple t.single else t.single

-- the text of the term
abbrev pub term_text : List (List TermView) → Term → TermForm → Bool → Option (List ℕ)
term_text locales term form plural = option_map (entry_text plural) (found_term locales term form)

-- the gender of an entry, if it is of the term and in the long form
abbrev pub long_gender : Term → TermView → Option GrammarGender
long_gender term t = if is_term term Long t then t.gender else None

-- the gender of a term: the first that it has in the long form, over the locales in order
abbrev pub term_gender : List (List TermView) → Term → Option GrammarGender
term_gender locales term = first_some (first_some (long_gender term)) locales
