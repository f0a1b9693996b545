-- Four entries are built in, each with a key. An entry is one of them (`IsBuiltIn`) if it has
-- exactly the fields, the date and the parents listed for it. Each text is one normal chunk. The
-- parents have no key. The address of the essay (`feminism`) is the result of the URL Standard's
-- parser on its text. The label of a built-in entry follows from its authors, title and date. Its
-- kinds follow from its own type, its parent's type, and whether it has a publisher and an address.
use Rattle.std.specs.Prelude.{◌≡◌, ℕ, pos, Bool, false, List, [], ◌∷◌, Option, Some, None, Ok, Err, codes, option_map, unwrap_or, if◌then◌else◌}
use Rattle.std.specs.Str.{bytes_eq}
use Rattle.url.specs.Parser.{Parsed, parse_url}
use Rattle.url.specs.Parts as of_url
use Rattle.lit_model.specs.declared.entry.Entry.{Entry, out-Entry}
use Rattle.lit_model.specs.declared.entry_type.EntryType.{EntryType}
use Rattle.lit_model.specs.declared.entry_type.EntryType.TheVariants.{Article, Book, Blog, Periodical}
use Rattle.lit_model.specs.Chunks.{chunks_text}
use Rattle.lit_model.specs.Date.{DateView, date_view}
use Rattle.lit_model.specs.Entry.{parents_of}
use Rattle.lit_model.specs.MaybeTyped.{MaybeView, typed}
use Rattle.lit_model.specs.Numeric.{NumericView, one}
use Rattle.lit_model.specs.Page.{PartView, range}
use Rattle.lit_model.specs.Person.{person_of}
use Rattle.lit_model.specs.Source.{Address}
use Rattle.lit_model.specs.Text.{plain_forms}
use Rattle.lit_model.specs.Work.{Own, own_of}
use Rattle.csl_elements.specs.declared.taxonomy.Kind.{Kind}
use Rattle.csl_entry.specs.CitationLabel.{LabelParts, label_from}
use Rattle.csl_entry.specs.EntryKind.{typing_from, is_kind}
use Rattle.csl_samples.specs.declared.entries.BuiltIn.{BuiltIn}
use Rattle.csl_samples.specs.declared.entries.BuiltIn.TheVariants.{CrazyRich, QuantizedVortex, Dependence, Feminism}

-- the key of a built-in entry
abbrev pub key_of : BuiltIn → List ℕ
key_of CrazyRich = codes "crazy-rich"
key_of QuantizedVortex = codes "quantized-vortex"
key_of Dependence = codes "dependence"
key_of Feminism = codes "feminism"

-- the built-in entry with this key
abbrev pub named_built_in : List ℕ → Option BuiltIn
named_built_in key =
    if bytes_eq key (key_of CrazyRich) then Some CrazyRich
    else (if bytes_eq key (key_of QuantizedVortex) then Some QuantizedVortex
    else (if bytes_eq key (key_of Dependence) then Some Dependence
    else (if bytes_eq key (key_of Feminism) then Some Feminism else None)))

-- ---- the parts of an entry

abbrev pub bare_number : ℕ → NumericView
bare_number n = record { value = one (pos n); prefix = None; suffix = None }

abbrev pub number : ℕ → MaybeView NumericView
number n = typed (bare_number n)

abbrev pub pages : ℕ → ℕ → MaybeView (List PartView)
pages from to = typed (range (bare_number from) (bare_number to) ∷ [])

-- a year, with a month and a day if they are known; both count from 0
abbrev pub calendar_date : ℕ → Option ℕ → Option ℕ → DateView
calendar_date year month day = record { year = pos year; month = month; day = day; season = None; approximate = false }

-- the own fields of an entry with only a key and a type
abbrev pub minimal_fields : List ℕ → EntryType → Own
minimal_fields key entry_type = record {
  key = key;
  entry_type = entry_type;
  title = None;
  authors = None;
  editors = None;
  date = None;
  url = None;
  affiliated = None;
  publisher = None;
  location = None;
  organization = None;
  issue = None;
  volume = None;
  edition = None;
  chapter = None;
  volume_total = None;
  page_total = None;
  page_range = None;
  runtime = None;
  serial_number = None;
  language = None;
  archive = None;
  archive_location = None;
  call_number = None;
  note = None;
  abstract_ = None;
  genre = None;
}

-- the address that a parser returns, unless it returns an error
abbrev pub address_of_parse : Parsed of_url.Parts → Option Address
address_of_parse (Ok parts) = Some (record { value = parts; visit_date = None })
address_of_parse (Err _) = None

unfoldable pub address_from : List ℕ → Option Address
address_from text = address_of_parse (parse_url None text)

-- ---- the entries

-- an entry has these fields of its own and this date
pub record Shows (own : Own) (date : Option DateView) (e : Entry) : Type 0 where
  pub fields : own_of e ≡ record own { date = (out-Entry e).date }
  pub date_is : option_map date_view (out-Entry e).date ≡ date

-- an entry has these fields of its own, no date and no parents
abbrev pub StandsAlone : Own → Entry → Type 0
StandsAlone own e = Shows own None e × (parents_of e ≡ [])

-- an entry has one parent, with these fields, no date and no parents
abbrev pub HasParent : Own → Entry → Type 0
HasParent own e = (parent : Entry) × (parents_of e ≡ parent ∷ []) × StandsAlone own parent

-- the own fields of an entry with only a type and a title
abbrev pub only_title : EntryType → List ℕ → Own
only_title entry_type title = record (minimal_fields [] entry_type) { title = Some (plain_forms title) }

abbrev pub crazy_rich : Own
crazy_rich = record (minimal_fields (key_of CrazyRich) Book) {
  title = Some (plain_forms (codes "Crazy Rich Asians"));
  authors = Some (person_of (codes "Kwan") (codes "Kevin") ∷ []);
  publisher = Some (record { name = Some (plain_forms (codes "Anchor Books")); location = None });
  location = Some (plain_forms (codes "New York, NY, US"));
}

abbrev pub quantized_vortex : Own
quantized_vortex = record (minimal_fields (key_of QuantizedVortex) Article) {
  title = Some (plain_forms (codes "Structure of a Quantized Vortex in Boson Systems"));
  authors = Some (person_of (codes "Gross") (codes "E. P.") ∷ []);
  page_range = Some (pages 454 477);
  serial_number = Some ((codes "doi", codes "10.1007/BF02731494") ∷ []);
}

abbrev pub nuovo_cimento : Own
nuovo_cimento = record (minimal_fields [] Periodical) {
  title = Some (plain_forms (codes "Il Nuovo Cimento"));
  issue = Some (number 3);
  volume = Some (number 20);
}

abbrev pub dependence : Own
dependence = record (minimal_fields (key_of Dependence) Article) {
  title = Some (plain_forms (codes "The program dependence graph and its use in optimization"));
  authors = Some (person_of (codes "Ferrante") (codes "Jeanne") ∷ person_of (codes "Ottenstein") (codes "Karl J.") ∷ person_of (codes "Warren") (codes "Joe D.") ∷ []);
  serial_number = Some ((codes "doi", codes "10.1145/24039.24041") ∷ []);
}

abbrev pub transactions : Own
transactions = record (minimal_fields [] Periodical) {
  title = Some (plain_forms (codes "ACM Transactions on Programming Languages and Systems"));
  volume = Some (number 9);
  issue = Some (number 3);
}

unfoldable pub essay_text : List ℕ
essay_text = codes "https://aeon.co/essays/can-you-enjoy-romance-fiction-and-be-a-feminist"

abbrev pub essay_address : Option Address
essay_address = address_from essay_text

abbrev pub feminism : Own
feminism = record (minimal_fields (key_of Feminism) Article) {
  title = Some (plain_forms (codes "She swoons to conquer"));
  authors = Some (person_of (codes "Ungard-Sargon") (codes "Batya") ∷ []);
  editors = Some (person_of (codes "Weintraub") (codes "Pam") ∷ []);
  url = essay_address;
}

abbrev pub aeon : Own
aeon = record (minimal_fields [] Blog) { title = Some (plain_forms (codes "Aeon")) }

abbrev pub IsBuiltIn : BuiltIn → Entry → Type 0
IsBuiltIn CrazyRich e = Shows crazy_rich (Some (calendar_date 2014 None None)) e × (parents_of e ≡ [])
IsBuiltIn QuantizedVortex e = Shows quantized_vortex (Some (calendar_date 1961 (Some 4) None)) e × HasParent nuovo_cimento e
IsBuiltIn Dependence e = Shows dependence (Some (calendar_date 1987 (Some 6) None)) e × HasParent transactions e
IsBuiltIn Feminism e = Shows feminism (Some (calendar_date 2015 (Some 8) (Some 24))) e × HasParent aeon e

-- ---- the label and the kinds of a built-in entry

-- three parts of a built-in entry: its own fields except the date; its date; its parents' fields
abbrev pub own_fields : BuiltIn → Own
own_fields CrazyRich = crazy_rich
own_fields QuantizedVortex = quantized_vortex
own_fields Dependence = dependence
own_fields Feminism = feminism

abbrev pub date_of : BuiltIn → DateView
date_of CrazyRich = calendar_date 2014 None None
date_of QuantizedVortex = calendar_date 1961 (Some 4) None
date_of Dependence = calendar_date 1987 (Some 6) None
date_of Feminism = calendar_date 2015 (Some 8) (Some 24)

abbrev pub parent_fields : BuiltIn → List Own
parent_fields CrazyRich = []
parent_fields QuantizedVortex = nuovo_cimento ∷ []
parent_fields Dependence = transactions ∷ []
parent_fields Feminism = aeon ∷ []

-- the parts of a built-in entry's label: its authors, its title if there are none, and its date
abbrev pub label_parts_of : BuiltIn → LabelParts
label_parts_of entry = record {
  creators = unwrap_or (own_fields entry).authors [];
  stand_in = unwrap_or (option_map (λ t. chunks_text t.value) (own_fields entry).title) [];
  date = Some (date_of entry);
}

-- the label of a built-in entry, with three letters
abbrev pub label_text : BuiltIn → List ℕ
label_text entry = label_from 3 (label_parts_of entry)

-- whether a built-in entry is of a kind
abbrev pub is_built_in_kind : Kind → BuiltIn → Bool
is_built_in_kind kind entry = is_kind kind (typing_from (own_fields entry) (parent_fields entry))
