-- `==` of two entries compares each field in turn, and then the parents one by one.
use Rattle.std.proofs.Common.{◌≡◌, ◌<◌, Bool, true, ◌&&◌, List, [], ◌∷◌, refl, ap}
use Rattle.std.specs.Prelude.{string_bytes, Vec}
use Rattle.std.specs.Option.{option_eq}
use Rattle.std.specs.Str.{bytes_eq}
use Rattle.std.specs.Cmp.Lexicographic.{pointwise}
use Rattle.std.specs.declared.alloc.Global.{Global}
use denote.Hole.Compared.{Local, compared_is}
use Rattle.lit_model.specs.declared.entry.Entry.{Entry, out-Entry}
use Rattle.lit_model.specs.declared.entry.Entry.TheBlock as block
use Rattle.lit_model.specs.declared.person.Person.{Person}
use Rattle.lit_model.specs.declared.person.PersonsWithRoles.{PersonsWithRoles}
use Rattle.lit_model.specs.declared.maybe_typed.MaybeTyped.{MaybeTyped}
use Rattle.lit_model.specs.declared.numeric.Numeric.{Numeric}
use Rattle.lit_model.specs.declared.page.PageRanges.{PageRanges}
use Rattle.lit_model.specs.contracts.date.DatePartialEq.TheImpl.{eq-value as eq_date}
use Rattle.lit_model.specs.contracts.entry.EntryPartialEq.TheImpl.{eq-value as eq_entry, the_step}
use Rattle.lit_model.specs.contracts.entry_type.EntryTypePartialEq.TheImpl.{eq-value as eq_type}
use Rattle.lit_model.specs.contracts.maybe_typed.MaybeTypedPartialEq.TheImpl.{eq-value as eq_maybe, no_dict}
use Rattle.lit_model.specs.contracts.numeric.Numeric as of_numeric
use Rattle.lit_model.specs.contracts.numeric.NumericPartialEq.TheImpl.{eq-value as eq_numeric}
use Rattle.lit_model.specs.contracts.numeric.NumericPartialEq.TheImpl as of_numeric_eq
use Rattle.lit_model.specs.contracts.page.PageRanges as of_pages
use Rattle.lit_model.specs.contracts.page.PageRangesPartialEq.TheImpl as of_pages_eq
use Rattle.lit_model.specs.contracts.person.PersonPartialEq.TheImpl.{eq-value as eq_person}
use Rattle.lit_model.specs.contracts.person.PersonsWithRolesPartialEq.TheImpl.{eq-value as eq_group}
use Rattle.lit_model.specs.contracts.source.LanguageIdentifierPartialEq.TheImpl.{eq-value as eq_language}
use Rattle.lit_model.specs.contracts.source.PublisherPartialEq.TheImpl.{eq-value as eq_press}
use Rattle.lit_model.specs.contracts.source.QualifiedUrlPartialEq.TheImpl.{eq-value as eq_url}
use Rattle.lit_model.specs.contracts.source.SerialNumberPartialEq.TheImpl.{eq-value as eq_serials}
use Rattle.lit_model.specs.contracts.text.FormatStringPartialEq.TheImpl.{eq-value as eq_forms}
use Rattle.lit_model.specs.Entry.{parents_of}
use Rattle.lit_model.proofs.Depth.{EachOf, depth_of, parents_less}

abbrev pub same_persons : Vec Person Global → Vec Person Global → Bool
same_persons v w = pointwise eq_person.it v.items w.items

abbrev pub same_groups : Vec PersonsWithRoles Global → Vec PersonsWithRoles Global → Bool
same_groups v w = pointwise eq_group.it v.items w.items

abbrev pub same_maybe_number : MaybeTyped Numeric → MaybeTyped Numeric → Bool
same_maybe_number = (eq_maybe of_numeric.the_row of_numeric_eq.ghosts no_dict).it

abbrev pub same_maybe_pages : MaybeTyped PageRanges → MaybeTyped PageRanges → Bool
same_maybe_pages = (eq_maybe of_pages.the_row of_pages_eq.ghosts no_dict).it

-- whether each field of two entries is equal, given whether their parents are
abbrev pub same_fields : Entry → Entry → Bool → Bool
same_fields a b parents =
    bytes_eq (string_bytes (out-Entry a).key) (string_bytes (out-Entry b).key)
    && (eq_type.it (out-Entry a).entry_type (out-Entry b).entry_type
    && (option_eq eq_forms.it (out-Entry a).title (out-Entry b).title
    && (option_eq same_persons (out-Entry a).authors (out-Entry b).authors
    && (option_eq same_persons (out-Entry a).editors (out-Entry b).editors
    && (option_eq eq_date.it (out-Entry a).date (out-Entry b).date
    && (option_eq eq_url.it (out-Entry a).url (out-Entry b).url
    && (option_eq same_groups (out-Entry a).affiliated (out-Entry b).affiliated
    && (option_eq eq_press.it (out-Entry a).publisher (out-Entry b).publisher
    && (option_eq eq_forms.it (out-Entry a).location (out-Entry b).location
    && (option_eq eq_forms.it (out-Entry a).organization (out-Entry b).organization
    && (option_eq same_maybe_number (out-Entry a).issue (out-Entry b).issue
    && (option_eq same_maybe_number (out-Entry a).volume (out-Entry b).volume
    && (option_eq same_maybe_number (out-Entry a).edition (out-Entry b).edition
    && (option_eq same_maybe_number (out-Entry a).chapter (out-Entry b).chapter
    && (option_eq eq_numeric.it (out-Entry a).volume_total (out-Entry b).volume_total
    && (option_eq eq_numeric.it (out-Entry a).page_total (out-Entry b).page_total
    && (option_eq same_maybe_pages (out-Entry a).page_range (out-Entry b).page_range
    && (option_eq eq_forms.it (out-Entry a).runtime (out-Entry b).runtime
    && (option_eq eq_serials.it (out-Entry a).serial_number (out-Entry b).serial_number
    && (option_eq eq_language.it (out-Entry a).language (out-Entry b).language
    && (option_eq eq_forms.it (out-Entry a).archive (out-Entry b).archive
    && (option_eq eq_forms.it (out-Entry a).archive_location (out-Entry b).archive_location
    && (option_eq eq_forms.it (out-Entry a).call_number (out-Entry b).call_number
    && (option_eq eq_forms.it (out-Entry a).note (out-Entry b).note
    && (option_eq eq_forms.it (out-Entry a).abstract_ (out-Entry b).abstract_
    && (option_eq eq_forms.it (out-Entry a).genre (out-Entry b).genre && parents))))))))))))))))))))))))))

module _ {A : Type 0} (r t : A → A → Bool) (P : A → Type 0) (agree : (x y : A) → P x → P y → r x y ≡ t x y) where
  pointwise_agree : (xs ys : List A) → EachOf P xs → EachOf P ys → pointwise r xs ys ≡ pointwise t xs ys
  pointwise_agree [] [] p q = refl
  pointwise_agree [] (y ∷ ys) p q = refl
  pointwise_agree (x ∷ xs) [] p q = refl
  pointwise_agree (x ∷ xs) (y ∷ ys) p q = λ i. agree x y p.0 q.0 i && pointwise_agree xs ys p.1 q.1 i

-- one step of `==` depends only on `==` of entries of smaller depth
step_local : Local block.the_members block.the_family block.the_depth Bool true the_step
step_local r t n agree block.member-Entry a b p q =
    ap (same_fields a b) (pointwise_agree (r block.member-Entry) (t block.member-Entry) (λ y. depth_of y < n) (agree block.member-Entry) (parents_of a) (parents_of b) (parents_less a n p) (parents_less b n q))

pub eq_out : (a b : Entry) → eq_entry.it a b ≡ same_fields a b (pointwise eq_entry.it (parents_of a) (parents_of b))
eq_out a b = compared_is block.the_members block.the_family block.the_depth Bool true the_step step_local block.member-Entry a b
