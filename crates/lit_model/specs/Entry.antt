-- An entry has its own fields and a list of parents: the works that it is a part of. The *preorder*
-- of an entry is the entry, then the preorder of its first parent, then that of the second, and so
-- on. So a parent's parents come before the next parent. `Entry::map(f)` returns the first value
-- that `f` returns along the preorder.
use Rattle.std.specs.Prelude.{◌≡◌, ℕ, List, [], ◌∷◌, Option, None, Some, option_copied, option_map, option_and_then, unwrap_or, flat_map, string_bytes, Vec}
use Rattle.std.specs.Borrow.{Bor}
use Rattle.std.specs.declared.alloc.Global.{Global}
use Rattle.lit_model.specs.declared.person.PersonsWithRoles.{PersonsWithRoles}
use Rattle.lit_model.specs.Source.{serial, serials, with_serial}
use Rattle.lit_model.specs.declared.entry_type.EntryType.{EntryType}
use Rattle.lit_model.specs.Text.{format_string_view, plain_forms}
use Rattle.lit_model.specs.declared.entry.Entry.{Entry, Entry-F, out-Entry, roll-Entry, para-Entry}

-- the direct parents, in order
abbrev pub parents_of : Entry → List Entry
parents_of e = (out-Entry e).parents.items

-- one step, given each parent with its preorder: the entry, then the preorder of each parent
abbrev pub preorder_step : Entry-F (Entry × (Entry → List Entry)) → Entry → List Entry
preorder_step x e = e ∷ flat_map (λ p. p.1 p.0) x.parents.items

-- the entry, then the preorder of each parent, in order
abbrev pub preorder : Entry → List Entry
preorder e = para-Entry (Entry → List Entry) preorder_step e e

-- each result of a closure is the result of the function g for the same entry
abbrev pub AnswersBy : {X : Type 0} → (Bor Entry → Option (Bor X) → Type 0) → (Entry → Option X) → Type 0
AnswersBy {X} post g = (e : Bor Entry) (r : Option (Bor X)) → post e r → option_copied r ≡ g e.now

-- an entry with only this key and this type
pub record IsBare (key : List ℕ) (entry_type : EntryType) (e : Entry) : Type 0 where
  pub key_is : string_bytes (out-Entry e).key ≡ key
  pub type_is : (out-Entry e).entry_type ≡ entry_type
  pub no_title : (out-Entry e).title ≡ None
  pub no_authors : (out-Entry e).authors ≡ None
  pub no_editors : (out-Entry e).editors ≡ None
  pub no_date : (out-Entry e).date ≡ None
  pub no_url : (out-Entry e).url ≡ None
  pub no_affiliated : (out-Entry e).affiliated ≡ None
  pub no_publisher : (out-Entry e).publisher ≡ None
  pub no_location : (out-Entry e).location ≡ None
  pub no_organization : (out-Entry e).organization ≡ None
  pub no_issue : (out-Entry e).issue ≡ None
  pub no_volume : (out-Entry e).volume ≡ None
  pub no_edition : (out-Entry e).edition ≡ None
  pub no_chapter : (out-Entry e).chapter ≡ None
  pub no_volume_total : (out-Entry e).volume_total ≡ None
  pub no_page_total : (out-Entry e).page_total ≡ None
  pub no_page_range : (out-Entry e).page_range ≡ None
  pub no_runtime : (out-Entry e).runtime ≡ None
  pub no_serial_number : (out-Entry e).serial_number ≡ None
  pub no_language : (out-Entry e).language ≡ None
  pub no_archive : (out-Entry e).archive ≡ None
  pub no_archive_location : (out-Entry e).archive_location ≡ None
  pub no_call_number : (out-Entry e).call_number ≡ None
  pub no_note : (out-Entry e).note ≡ None
  pub no_abstract : (out-Entry e).abstract_ ≡ None
  pub no_genre : (out-Entry e).genre ≡ None
  pub no_parents : parents_of e ≡ []

-- the entry with its title removed
abbrev pub without_title : Entry → Entry
without_title e = roll-Entry (record (out-Entry e) { title = None })

-- an entry with only this key, this type and this title; the title is one text without a short form
pub record IsTitled (key : List ℕ) (entry_type : EntryType) (title : List ℕ) (e : Entry) : Type 0 where
  pub title_is : option_map format_string_view (out-Entry e).title ≡ Some (plain_forms title)
  pub rest_is_bare : IsBare key entry_type (without_title e)

-- the entry's own number under the name of a scheme, if there is one
abbrev pub own_serial : List ℕ → Entry → Option (List ℕ)
own_serial scheme e = option_and_then (serial scheme) (out-Entry e).serial_number

-- the entry's own serial numbers, each scheme with its number, if it has any
abbrev pub own_serials : Entry → Option (List (List ℕ × List ℕ))
own_serials e = option_map serials (out-Entry e).serial_number

-- the entry with its serial numbers removed
abbrev pub without_serials : Entry → Entry
without_serials e = roll-Entry (record (out-Entry e) { serial_number = None })

-- `new` is `old` with these serial numbers in place of its own
pub record HasSerials (numbers : Option (List (List ℕ × List ℕ))) (old new : Entry) : Type 0 where
  pub numbers_are : own_serials new ≡ numbers
  pub rest_stays : without_serials new ≡ without_serials old

-- the entry's own serial numbers with this number under this scheme
abbrev pub serials_with : List ℕ → List ℕ → Entry → Option (List (List ℕ × List ℕ))
serials_with scheme number e = Some (with_serial scheme number (unwrap_or (own_serials e) []))

abbrev optional_items : Option (Vec PersonsWithRoles Global) → List PersonsWithRoles
optional_items None = []
optional_items (Some v) = v.items

-- the entry's own groups of further persons
abbrev pub role_groups : Entry → List PersonsWithRoles
role_groups e = optional_items (out-Entry e).affiliated
