-- The typing of an entry, from the data that the entry and its direct parents show.
use Rattle.std.proofs.Common.{◌≡◌, ℕ, List, [], ◌∷◌, Bool, true, false, Option, Some, None, map, length, option_map, if◌then◌else◌, refl, sym, ap}
use Rattle.std.specs.Prelude.{is_some, ◌||◌, ◌==◌}
use Rattle.std.specs.List.{find, list_any}
use Rattle.std.proofs.lemmas.List.{length-map}
use Rattle.std.proofs.lemmas.Simd.{map-map}
use Rattle.lit_model.specs.declared.entry.Entry.{Entry, out-Entry}
use Rattle.lit_model.specs.declared.entry_type.EntryType.{EntryType}
use Rattle.lit_model.specs.Entry.{parents_of}
use Rattle.lit_model.specs.Select.{is_among, parent_among}
use Rattle.lit_model.specs.Source.{press_of, address_of}
use Rattle.lit_model.specs.Work.{Own, own_of}
use Rattle.csl_entry.specs.EntryKind.{typing_of, typing_from, is_part_of, stands_alone}

module _ {A B : Type 0} (q : B → Bool) (f : A → B) where
  found_step : (b : Bool) (x : A) (xs : List A) → is_some (find (λ x. q (f x)) xs) ≡ list_any q (map f xs) → is_some (if b then Some x else find (λ x. q (f x)) xs) ≡ (b || list_any q (map f xs))
  found_step true x xs h = refl
  found_step false x xs h = h

  -- an item is found exactly if the image under f of some item passes
  found_any : (xs : List A) → is_some (find (λ x. q (f x)) xs) ≡ list_any q (map f xs)
  found_any [] = refl
  found_any (x ∷ xs) = found_step (q (f x)) x xs (found_any xs)

abbrev type_of : Entry → EntryType
type_of e = (out-Entry e).entry_type

pub stands_in_found : (types : List EntryType) (e : Entry) → is_some (parent_among types e) ≡ is_part_of types (typing_of e)
stands_in_found types e = found_any (λ t. is_among t types) type_of (parents_of e)

pub alone_without_parents : (e : Entry) → stands_alone (typing_of e) ≡ (length (parents_of e) == 0)
alone_without_parents e = ap (λ (n : ℕ). n == 0) (length-map (parents_of e) type_of)

pub is_some-shown : {A B : Type 0} (f : A → B) (o : Option A) → is_some o ≡ is_some (option_map f o)
is_some-shown f None = refl
is_some-shown f (Some x) = refl

-- the own fields of an entry and those of its direct parents determine its typing
pub typing_shown : (e : Entry) → typing_of e ≡ typing_from (own_of e) (map own_of (parents_of e))
typing_shown e = λ i. record {
  own = type_of e;
  parents = sym (map-map (λ (o : Own). o.entry_type) own_of (parents_of e)) i;
  has_publisher = is_some-shown press_of (out-Entry e).publisher i;
  has_address = is_some-shown address_of (out-Entry e).url i;
}
