-- Publishers, addresses, serial numbers and languages as plain data: texts as bytes. An address is
-- its parts (URL Standard), or the text that they serialize to.
use Rattle.std.specs.Prelude.{ℕ, List, map, Option, None, Some, option_map, string_bytes, String}
use Rattle.std.specs.declared.alloc.Global.{Global}
use Rattle.std.specs.BTreeMap.{get_by_text, insert_entry}
use Rattle.std.specs.Cmp.Lexicographic.{slice_cmp}
use Rattle.std.specs.Ordering.{nat_cmp}
use Rattle.url.specs.Parts.{Parts, serialize}
use Rattle.lit_model.specs.Date.{DateView as DateParts, date_view}
use Rattle.lit_model.specs.declared.date.Date.{Date}
use Rattle.lit_model.specs.declared.source.Publisher.{Publisher}
use Rattle.lit_model.specs.declared.source.QualifiedUrl.{QualifiedUrl}
use Rattle.lit_model.specs.declared.source.SerialNumber.{SerialNumber}
use Rattle.lit_model.specs.declared.source.LanguageIdentifier.{LanguageIdentifier}
use Rattle.lit_model.specs.Text.{FormatStringView, format_string_view, plain_forms}

-- a publisher by its texts
pub record Press : Type 0 where
  pub name : Option FormatStringView
  pub location : Option FormatStringView

abbrev pub press_of : Publisher → Press
press_of p = record { name = option_map format_string_view p.name; location = option_map format_string_view p.location }

-- a publisher with only a name, which is one text without a short form
abbrev pub press_named : List ℕ → Press
press_named name = record { name = Some (plain_forms name); location = None }

-- an address by its parts
pub record Address : Type 0 where
  pub value : Parts
  pub visit_date : Option Date

abbrev pub address_of : QualifiedUrl → Address
address_of u = record { value = u.value; visit_date = u.visit_date }

-- an address by its text
pub record AddressText : Type 0 where
  pub text : List ℕ
  pub visit_date : Option DateParts

abbrev pub address_text : QualifiedUrl → AddressText
address_text u = record { text = serialize u.value; visit_date = option_map date_view u.visit_date }

abbrev pub scheme_and_number : String Global × String Global → List ℕ × List ℕ
scheme_and_number e = (string_bytes e.0, string_bytes e.1)

-- the serial numbers, each scheme with its number, in the order of the schemes
abbrev pub serials : SerialNumber → List (List ℕ × List ℕ)
serials s = map scheme_and_number s.0.entries

-- the serial numbers with this number under this scheme: it replaces the number of an equal scheme,
-- and a new scheme goes to its place in the order of bytes
abbrev pub with_serial : List ℕ → List ℕ → List (List ℕ × List ℕ) → List (List ℕ × List ℕ)
with_serial scheme number numbers = insert_entry (slice_cmp nat_cmp) numbers scheme number

-- the number under the name of a scheme, if there is one
abbrev pub serial : List ℕ → SerialNumber → Option (List ℕ)
serial scheme s = option_map string_bytes (get_by_text s.0 scheme)

-- a language with its region, by their texts
pub record Language : Type 0 where
  pub language : List ℕ
  pub region : Option (List ℕ)

abbrev pub language_of : LanguageIdentifier → Language
language_of l = record { language = string_bytes l.language; region = option_map string_bytes l.region }
