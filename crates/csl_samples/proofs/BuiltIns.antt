-- The label and the kinds of a built-in entry.
use Rattle.std.proofs.Common.{◌≡◌, ℕ, Bool, true, false, ◌&&◌, List, [], ◌∷◌, Option, Some, None, map, option_map, refl, ap, ◌∙◌}
use Rattle.std.specs.Prelude.{is_none, unwrap_or, ◌||◌, Result, Ok, Err, IfOk, String, string_bytes}
use Rattle.std.specs.Option.{option_or}
use Rattle.std.specs.declared.alloc.Global.{Global}
use Rattle.lit_model.specs.declared.date.Date.{Date}
use Rattle.lit_model.specs.declared.entry.Entry.{Entry, out-Entry}
use Rattle.lit_model.specs.declared.entry_type.EntryType.TheVariants.{Chapter, Scene}
use Rattle.lit_model.specs.Date.{DateView, date_view}
use Rattle.lit_model.specs.Entry.{parents_of}
use Rattle.lit_model.specs.Person.{PersonView}
use Rattle.lit_model.specs.Select.{same_type, is_untitled_part, full_of}
use Rattle.lit_model.specs.Text.{FormatStringView, format_string_view}
use Rattle.lit_model.specs.Work.{Own, own_of}
use Rattle.lit_model.proofs.Preorder.{first_some_here}
use Rattle.lit_model.proofs.Whole.{full_whole}
use Rattle.csl_entry.specs.CitationLabel.{stand_in, label_parts, label_from, label_date, label}
use Rattle.csl_entry.specs.Creators.{makers, creators_of}
use Rattle.csl_entry.specs.EntryDate.{date_in, visit_date}
use Rattle.csl_entry.specs.EntryKind.{typing_of, typing_from, is_kind}
use Rattle.csl_entry.proofs.Typings.{typing_shown}
use Rattle.csl_elements.specs.declared.taxonomy.Kind.{Kind}
use Rattle.csl_samples.specs.declared.entries.BuiltIn.{BuiltIn}
use Rattle.csl_samples.specs.declared.entries.BuiltIn.TheVariants.{CrazyRich, QuantizedVortex, Dependence, Feminism}
use Rattle.csl_samples.specs.Entries.{Shows, HasParent, IsBuiltIn, own_fields, parent_fields, date_of, label_parts_of, label_text, is_built_in_kind}

-- ---- kinds

typing_alone : (own : Own) (date : Option DateView) (e : Entry) → Shows own date e → parents_of e ≡ [] → typing_of e ≡ typing_from own []
typing_alone own date e shows alone = typing_shown e ∙ (λ i. typing_from (shows.fields i) (map own_of (alone i)))

typing_in : (own above : Own) (date : Option DateView) (e : Entry) → Shows own date e → HasParent above e → typing_of e ≡ typing_from own (above ∷ [])
typing_in own above date e shows parent =
    typing_shown e ∙ (λ i. typing_from (shows.fields i) (map own_of (parent.1 i))) ∙ ap (λ (o : Own). typing_from own (o ∷ [])) parent.2.0.fields

typing_built_in : (entry : BuiltIn) (e : Entry) → IsBuiltIn entry e → typing_of e ≡ typing_from (own_fields entry) (parent_fields entry)
typing_built_in CrazyRich e h = typing_alone (own_fields CrazyRich) _ e h.0 h.1
typing_built_in QuantizedVortex e h = typing_in (own_fields QuantizedVortex) _ _ e h.0 h.1
typing_built_in Dependence e h = typing_in (own_fields Dependence) _ _ e h.0 h.1
typing_built_in Feminism e h = typing_in (own_fields Feminism) _ _ e h.0 h.1

pub kind_built_in : (entry : BuiltIn) (kind : Kind) (e : Entry) → IsBuiltIn entry e → is_kind kind (typing_of e) ≡ is_built_in_kind kind entry
kind_built_in entry kind e h = ap (is_kind kind) (typing_built_in entry e h)

-- ---- labels

titled : {A B : Type 0} (f : A → B) (o : Option A) (t : B) → option_map f o ≡ Some t → is_none o ≡ false
titled f None t h = cc
titled f (Some x) t h = refl

and_false : (b : Bool) → (b && false) ≡ false
and_false true = refl
and_false false = refl

own_date_first : (d more visit : Option Date) (date : DateView) → option_map date_view d ≡ Some date → option_map date_view (option_or (option_or d more) visit) ≡ Some date
own_date_first None more visit date h = cc
own_date_first (Some d) more visit date h = h

label_date_is : (e : Entry) (date : DateView) → option_map date_view (out-Entry e).date ≡ Some date → option_map date_view (label_date e) ≡ Some date
label_date_is e date h = ap (λ d. option_map date_view (option_or d (visit_date e))) (first_some_here date_in e) ∙ own_date_first (date_in e) _ (visit_date e) date h

-- the label of a work with authors, a title and a date
label_shown : (own : Own) (date : DateView) (names : List PersonView) (title : FormatStringView) (e : Entry) → Shows own (Some date) e → own.authors ≡ Some names → own.title ≡ Some title → label_parts (full_of e) ≡ record { creators = names; stand_in = stand_in own; date = Some date }
label_shown own date names title e shows authors has_title =
    let untitled : is_untitled_part e ≡ false = ap (λ b. (same_type (out-Entry e).entry_type Chapter || same_type (out-Entry e).entry_type Scene) && b) (titled format_string_view (out-Entry e).title title (ap (λ (o : Own). o.title) shows.fields ∙ has_title)) ∙ and_false _ in
    let creators : creators_of e ≡ names = ap (λ (o : Option (List PersonView)). unwrap_or o (unwrap_or (own_of e).editors (makers e))) (ap (λ (o : Own). o.authors) shows.fields ∙ authors) in
    let other = ap stand_in shows.fields in
    let dated = label_date_is e date shows.date_is in
    ap label_parts (full_whole e untitled) ∙ (λ i. record { creators = creators i; stand_in = other i; date = dated i })

parts_built_in : (entry : BuiltIn) (e : Entry) → IsBuiltIn entry e → label_parts (full_of e) ≡ label_parts_of entry
parts_built_in CrazyRich e h = label_shown (own_fields CrazyRich) (date_of CrazyRich) _ _ e h.0 refl refl
parts_built_in QuantizedVortex e h = label_shown (own_fields QuantizedVortex) (date_of QuantizedVortex) _ _ e h.0 refl refl
parts_built_in Dependence e h = label_shown (own_fields Dependence) (date_of Dependence) _ _ e h.0 refl refl
parts_built_in Feminism e h = label_shown (own_fields Feminism) (date_of Feminism) _ _ e h.0 refl refl

pub label_built_in : (entry : BuiltIn) (e : Entry) → IsBuiltIn entry e → label 3 e ≡ label_text entry
label_built_in entry e h = ap (label_from 3) (parts_built_in entry e h)

pub labelled : {E : Type 0} (r : Result (String Global) E) (n : ℕ) (entry : BuiltIn) (e : Entry) → n ≡ 3 → IsBuiltIn entry e → IfOk r (λ s. string_bytes s ≡ label n e) → IfOk r (λ s. string_bytes s ≡ label_text entry)
labelled (Ok s) n entry e three h made = made ∙ ap (λ (m : ℕ). label m e) three ∙ label_built_in entry e h
labelled (Err x) n entry e three h made = tt
