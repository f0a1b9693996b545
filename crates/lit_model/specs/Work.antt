-- The data that an entry *shows*. Texts show their bytes, lists show their items, and addresses
-- show their parts (URL Standard). An entry shows `works`: the preorder of the entry and its
-- parents, each with its own fields and its number of parents. A copy shows the same. Two entries
-- are equal (`==`) if they have the same `spelled_works`, which is `works` with each address by its
-- text.
use Rattle.std.specs.Prelude.{ℕ, List, map, length, Option, None, option_map, string_bytes}
use Rattle.lit_model.specs.declared.date.Date.{Date}
use Rattle.lit_model.specs.declared.entry.Entry.{Entry, out-Entry}
use Rattle.lit_model.specs.declared.entry_type.EntryType.{EntryType}
use Rattle.lit_model.specs.Entry.{parents_of, preorder}
use Rattle.lit_model.specs.MaybeTyped.{MaybeView, maybe_view}
use Rattle.lit_model.specs.Numeric.{NumericView, numeric_view}
use Rattle.lit_model.specs.Page.{PartView, pages_view}
use Rattle.lit_model.specs.Person.{PersonView, person_view, RoleGroup, role_group}
use Rattle.lit_model.specs.Source.{Press, press_of, Address, address_of, AddressText, address_text, serials, Language, language_of}
use Rattle.lit_model.specs.Text.{FormatStringView, format_string_view}

-- an entry's own fields
pub record Own : Type 0 where
  pub key : List ℕ
  pub entry_type : EntryType
  pub title : Option FormatStringView
  pub authors : Option (List PersonView)
  pub editors : Option (List PersonView)
  pub date : Option Date
  pub url : Option Address
  pub affiliated : Option (List RoleGroup)
  pub publisher : Option Press
  pub location : Option FormatStringView
  pub organization : Option FormatStringView
  pub issue : Option (MaybeView NumericView)
  pub volume : Option (MaybeView NumericView)
  pub edition : Option (MaybeView NumericView)
  pub chapter : Option (MaybeView NumericView)
  pub volume_total : Option NumericView
  pub page_total : Option NumericView
  pub page_range : Option (MaybeView (List PartView))
  pub runtime : Option FormatStringView
  pub serial_number : Option (List (List ℕ × List ℕ))
  pub language : Option Language
  pub archive : Option FormatStringView
  pub archive_location : Option FormatStringView
  pub call_number : Option FormatStringView
  pub note : Option FormatStringView
  pub abstract_ : Option FormatStringView
  pub genre : Option FormatStringView

abbrev pub own_of : Entry → Own
own_of e = record {
  key = string_bytes (out-Entry e).key;
  entry_type = (out-Entry e).entry_type;
  title = option_map format_string_view (out-Entry e).title;
  authors = option_map (λ v. map person_view v.items) (out-Entry e).authors;
  editors = option_map (λ v. map person_view v.items) (out-Entry e).editors;
  date = (out-Entry e).date;
  url = option_map address_of (out-Entry e).url;
  affiliated = option_map (λ v. map role_group v.items) (out-Entry e).affiliated;
  publisher = option_map press_of (out-Entry e).publisher;
  location = option_map format_string_view (out-Entry e).location;
  organization = option_map format_string_view (out-Entry e).organization;
  issue = option_map (maybe_view numeric_view) (out-Entry e).issue;
  volume = option_map (maybe_view numeric_view) (out-Entry e).volume;
  edition = option_map (maybe_view numeric_view) (out-Entry e).edition;
  chapter = option_map (maybe_view numeric_view) (out-Entry e).chapter;
  volume_total = option_map numeric_view (out-Entry e).volume_total;
  page_total = option_map numeric_view (out-Entry e).page_total;
  page_range = option_map (maybe_view pages_view) (out-Entry e).page_range;
  runtime = option_map format_string_view (out-Entry e).runtime;
  serial_number = option_map serials (out-Entry e).serial_number;
  language = option_map language_of (out-Entry e).language;
  archive = option_map format_string_view (out-Entry e).archive;
  archive_location = option_map format_string_view (out-Entry e).archive_location;
  call_number = option_map format_string_view (out-Entry e).call_number;
  note = option_map format_string_view (out-Entry e).note;
  abstract_ = option_map format_string_view (out-Entry e).abstract_;
  genre = option_map format_string_view (out-Entry e).genre;
}

-- an entry's own fields, and its number of parents
pub record Work : Type 0 where
  pub own : Own
  pub parent_count : ℕ

abbrev pub work_of : Entry → Work
work_of e = record { own = own_of e; parent_count = length (parents_of e) }

-- The entry and its parents in preorder. Two entries show the same list exactly if they agree in
-- every field, at every level.
abbrev pub works : Entry → List Work
works e = map work_of (preorder e)

-- an entry's own fields with its address by the text alone, and its number of parents
pub record Spelled : Type 0 where
  pub own : Own
  pub address : Option AddressText
  pub parent_count : ℕ

abbrev pub spelled_of : Entry → Spelled
spelled_of e = record {
  own = record (own_of e) { url = None };
  address = option_map address_text (out-Entry e).url;
  parent_count = length (parents_of e);
}

-- The entry and its parents in preorder, with each address by its text. Two addresses with one text
-- may differ in their parts, so this distinguishes less than `works`.
abbrev pub spelled_works : Entry → List Spelled
spelled_works e = map spelled_of (preorder e)
