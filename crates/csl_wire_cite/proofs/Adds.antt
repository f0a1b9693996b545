-- Answers with one more, and the answers of members one by one.
use Rattle.std.proofs.Common.{◌≡◌, Some, List, [], ◌∷◌, ◌++◌}
use Rattle.std.specs.Prelude.{String, string_bytes}
use Rattle.std.specs.declared.alloc.Global.{Global}
use Rattle.serde_json.specs.Data.{Data}
use Rattle.serde_json.specs.View.{members_view, view}
use Rattle.serde_json.specs.declared.value.Value.{Value}
use Rattle.csl_elements.specs.declared.taxonomy.DateVariable.{DateVariable}
use Rattle.csl_elements.specs.declared.taxonomy.NameVariable.{NameVariable}
use Rattle.csl_elements.specs.declared.taxonomy.NumberVariable.{NumberVariable}
use Rattle.csl_elements.specs.declared.taxonomy.PageVariable.{PageVariable}
use Rattle.csl_elements.specs.declared.taxonomy.StandardVariable.{StandardVariable}
use Rattle.lit_model.specs.Date.{DateView}
use Rattle.lit_model.specs.MaybeTyped.{MaybeView}
use Rattle.lit_model.specs.Numeric.{NumericView}
use Rattle.lit_model.specs.Page.{PartView}
use Rattle.lit_model.specs.Person.{PersonView}
use Rattle.lit_model.specs.Text.{Chunk}
use Rattle.csl_entry.specs.Snapshot.{Kept}
use Rattle.csl_wire_cite.specs.Dates.{IsDate}
use Rattle.csl_wire_cite.specs.Numbers.{read_number, ArePages}
use Rattle.csl_wire_cite.specs.Persons.{read_persons}
use Rattle.csl_wire_cite.specs.Texts.{read_long, read_short}
use Rattle.csl_wire_cite.specs.Variables.{AddsDate, AddsMember, AddsMembers, AddsNumber, AddsPages, AddsPersons, AddsText}

pub text_added : (v : StandardVariable) (d : Data) (l s : List Chunk) (a b : Kept) → read_long d ≡ Some l → read_short d ≡ Some s → b ≡ record a { long_texts = a.long_texts ++ (v, l) ∷ []; short_texts = a.short_texts ++ (v, s) ∷ [] } → AddsText v d a b
text_added v d l s a b el es e = record { long = l; is_long = el; short = s; is_short = es; added = e }

pub number_added : (v : NumberVariable) (d : Data) (n : MaybeView NumericView) (a b : Kept) → read_number d ≡ Some n → b ≡ record a { numbers = a.numbers ++ (v, n) ∷ [] } → AddsNumber v d a b
number_added v d n a b is e = record { number = n; is = is; added = e }

pub pages_added : (v : PageVariable) (d : Data) (p : MaybeView (List PartView)) (a b : Kept) → ArePages d p → b ≡ record a { pages = a.pages ++ (v, p) ∷ [] } → AddsPages v d a b
pages_added v d p a b are e = record { pages_ = p; are = are; added = e }

pub persons_added : (v : NameVariable) (d : Data) (ps : List PersonView) (a b : Kept) → read_persons d ≡ Some ps → b ≡ record a { names = a.names ++ (v, ps) ∷ [] } → AddsPersons v d a b
persons_added v d ps a b are e = record { persons = ps; are = are; added = e }

pub date_added : (v : DateVariable) (d : Data) (x : DateView) (a b : Kept) → IsDate d x → b ≡ record a { dates = a.dates ++ (v, x) ∷ [] } → AddsDate v d a b
date_added v d x a b is e = record { date = x; is = is; added = e }

-- a member, and then those after it
pub first_member : (name : String Global) (value : Value) (es : List (String Global × Value)) (before between after : Kept) → AddsMember (string_bytes name) (view value) before between → AddsMembers (members_view es) between after → AddsMembers (members_view ((name, value) ∷ es)) before after
first_member name value es before between after first rest = record { between = between; first = first; rest = rest }
