-- Which answers the members of a JSON object are read as (CSL 1.0.2, Appendix IV, Variables). Each
-- member that is not `null` is an answer to the variable of its name, after those of the members
-- before it. A text is an answer in both forms.
use Rattle.std.specs.Prelude.{◌≡◌, ⊤, ℕ, List, [], ◌∷◌, ◌++◌, Option, Some, None, map}
use Rattle.serde_json.specs.Data.{Data, Members, no_members, member as a_member}
use Rattle.serde_json.specs.Find.{as_null}
use Rattle.csl_elements.specs.declared.taxonomy.DateVariable.{DateVariable}
use Rattle.csl_elements.specs.declared.taxonomy.NameVariable.{NameVariable}
use Rattle.csl_elements.specs.declared.taxonomy.NumberVariable.{NumberVariable}
use Rattle.csl_elements.specs.declared.taxonomy.PageVariable.{PageVariable}
use Rattle.csl_elements.specs.declared.taxonomy.StandardVariable.{StandardVariable}
use Rattle.csl_elements.specs.declared.taxonomy.Variable.{Variable}
use Rattle.csl_elements.specs.declared.taxonomy.Variable.TheVariants as variables
use Rattle.lit_model.specs.Date.{DateView, date_view}
use Rattle.lit_model.specs.MaybeTyped.{MaybeView, maybe_view}
use Rattle.lit_model.specs.Numeric.{NumericView, numeric_view}
use Rattle.lit_model.specs.Page.{PartView, pages_view}
use Rattle.lit_model.specs.Person.{PersonView, person_view}
use Rattle.lit_model.specs.Text.{Chunk, chunks}
use Rattle.csl_entry.specs.Snapshot.{Kept, keyed}
use Rattle.csl_wire.specs.Named.{variable_has}
use Rattle.csl_wire_cite.specs.Dates.{IsDate}
use Rattle.csl_wire_cite.specs.Numbers.{ArePages, read_number}
use Rattle.csl_wire_cite.specs.Persons.{read_persons}
use Rattle.csl_wire_cite.specs.Texts.{read_long, read_short}
use Rattle.csl_wire_cite.specs.declared.answers.Answers.{Answers}

-- what is kept of the answers that were read
abbrev pub kept_answers : Answers → Kept
kept_answers a = record {
  numbers = map (keyed (maybe_view numeric_view)) a.numbers.items;
  pages = map (keyed (maybe_view pages_view)) a.pages.items;
  long_texts = map (keyed chunks) a.long_texts.items;
  short_texts = map (keyed chunks) a.short_texts.items;
  names = map (keyed (λ persons. map person_view persons.items)) a.names.items;
  dates = map (keyed date_view) a.dates.items;
  kinds = [];
}

abbrev pub nothing_kept : Kept
nothing_kept = record { numbers = []; pages = []; long_texts = []; short_texts = []; names = []; dates = []; kinds = [] }

-- `after` is `before` with one answer more, which the data stand for
pub record AddsText (v : StandardVariable) (d : Data) (before after : Kept) : Type 0 where
  pub long : List Chunk
  pub is_long : read_long d ≡ Some long
  pub short : List Chunk
  pub is_short : read_short d ≡ Some short
  pub added : after ≡ record before {
    long_texts = before.long_texts ++ (v, long) ∷ [];
    short_texts = before.short_texts ++ (v, short) ∷ [];
  }

pub record AddsNumber (v : NumberVariable) (d : Data) (before after : Kept) : Type 0 where
  pub number : MaybeView NumericView
  pub is : read_number d ≡ Some number
  pub added : after ≡ record before { numbers = before.numbers ++ (v, number) ∷ [] }

pub record AddsPages (v : PageVariable) (d : Data) (before after : Kept) : Type 0 where
  pub pages_ : MaybeView (List PartView)
  pub are : ArePages d pages_
  pub added : after ≡ record before { pages = before.pages ++ (v, pages_) ∷ [] }

pub record AddsPersons (v : NameVariable) (d : Data) (before after : Kept) : Type 0 where
  pub persons : List PersonView
  pub are : read_persons d ≡ Some persons
  pub added : after ≡ record before { names = before.names ++ (v, persons) ∷ [] }

pub record AddsDate (v : DateVariable) (d : Data) (before after : Kept) : Type 0 where
  pub date : DateView
  pub is : IsDate d date
  pub added : after ≡ record before { dates = before.dates ++ (v, date) ∷ [] }

abbrev pub AddsAnswer : Variable → Data → Kept → Kept → Type 0
AddsAnswer (variables.Standard v) d = AddsText v d
AddsAnswer (variables.Number v) d = AddsNumber v d
AddsAnswer (variables.Page v) d = AddsPages v d
AddsAnswer (variables.Date v) d = AddsDate v d
AddsAnswer (variables.Name v) d = AddsPersons v d

pub record AddsNamed (name : List ℕ) (d : Data) (before after : Kept) : Type 0 where
  pub variable : Variable
  pub named : variable_has name variable
  pub answer : AddsAnswer variable d before after

abbrev AddsUnlessNull : Option ⊤ → List ℕ → Data → Kept → Kept → Type 0
AddsUnlessNull (Some is_null) name d before after = after ≡ before
AddsUnlessNull None name d before after = AddsNamed name d before after

-- one member
abbrev pub AddsMember : List ℕ → Data → Kept → Kept → Type 0
AddsMember name d = AddsUnlessNull (as_null d) name d

pub record AddsThen (name : List ℕ) (d : Data) (Rest : Kept → Kept → Type 0) (before after : Kept) : Type 0 where
  pub between : Kept
  pub first : AddsMember name d before between
  pub rest : Rest between after

-- the members in their order
abbrev pub AddsMembers : Members → Kept → Kept → Type 0
AddsMembers no_members before after = after ≡ before
AddsMembers (a_member name d ms) before after = AddsThen name d (AddsMembers ms) before after
