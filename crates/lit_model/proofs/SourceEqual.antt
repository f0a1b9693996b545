-- `==` of publishers, serial numbers and languages compares their texts. `==` of dates compares
-- their parts, and `==` of addresses their texts and visit dates.
use Rattle.std.proofs.Common.{◌≡◌, ℕ, ℤ, ◌≤◌, Bool, ◌&&◌, List, Option, Some, None, refl, ap, rules}
use Rattle.std.specs.Prelude.{String, string_bytes, option_map, nat_eq}
use Rattle.std.specs.Bool.{Decides, beq}
use Rattle.std.specs.Ordering.{int_eq}
use Rattle.std.specs.Cmp.{signed_Decides}
use Rattle.lit_model.specs.Date.{DateView as DateParts, date_view}
use Rattle.csl_common.specs.declared.season.Season.{Season}
use Rattle.csl_common.specs.contracts.season.SeasonPartialEq.TheImpl.{eq-value as eq_season}
use Rattle.std.specs.Str.{bytes_eq}
use Rattle.std.proofs.lemmas.Slice.Eq.{bytes_eq-Decides}
use Rattle.std.specs.Option.{ForSome}
use Rattle.std.specs.Coded.{Π_prop, →_prop, le_prop}
use mathlib.Core.HLevel.{is_prop→PathP}
use Rattle.url.specs.Parts.{serialize, IsValid}
use Rattle.url.specs.Canonical.{IsCanonical}
use Rattle.url.proofs.Theorems.{serialize_injective}
use Rattle.lit_model.specs.declared.date.Date.{Date}
use Rattle.lit_model.specs.contracts.date.DatePartialEq.TheImpl.{eq-value as eq_date}
use Rattle.lit_model.specs.declared.source.QualifiedUrl.{QualifiedUrl}
use Rattle.lit_model.specs.contracts.source.QualifiedUrlPartialEq.TheImpl.{eq-value as eq_url}
use Rattle.std.specs.declared.alloc.Global.{Global}
use Rattle.lit_model.specs.Source.{Press, press_of, Address, address_of, scheme_and_number, serials, language_of}
use Rattle.lit_model.specs.Text.{format_string_view}
use Rattle.lit_model.specs.declared.source.Publisher.{Publisher}
use Rattle.lit_model.specs.declared.source.SerialNumber.{SerialNumber}
use Rattle.lit_model.specs.declared.source.LanguageIdentifier.{LanguageIdentifier}
use Rattle.lit_model.specs.contracts.text.FormatStringPartialEq.TheImpl.{eq-value as eq_forms}
use Rattle.lit_model.specs.contracts.source.PublisherPartialEq.TheImpl.{eq-value as eq_press}
use Rattle.lit_model.specs.contracts.source.SerialNumberPartialEq.TheImpl.{eq-value as eq_serials}
use Rattle.lit_model.specs.contracts.source.LanguageIdentifierPartialEq.TheImpl.{eq-value as eq_language}
use Rattle.lit_model.proofs.PageEqual.{pointwise_view}
use Rattle.lit_model.proofs.ByValue.{both, through, option_view, option_same, text_decides}
use Rattle.lit_model.proofs.TextEqual.{forms_decide}

pub press_decides : (a b : Publisher) → Decides (eq_press.it a b) (press_of a ≡ press_of b)
press_decides a b = through _ (both _ _ (option_view eq_forms.it format_string_view forms_decide a.name b.name) (option_view eq_forms.it format_string_view forms_decide a.location b.location))
    (λ h. let e = h.0 in let f = h.1 in cc)
    (λ h. (ap (λ (p : Press). p.name) h, ap (λ (p : Press). p.location) h))

abbrev same_entry : String Global × String Global → String Global × String Global → Bool
same_entry p q = bytes_eq (string_bytes p.0) (string_bytes q.0) && bytes_eq (string_bytes p.1) (string_bytes q.1)

entry_decides : (p q : String Global × String Global) → Decides (same_entry p q) (scheme_and_number p ≡ scheme_and_number q)
entry_decides p q = through _ (both _ _ (text_decides p.0 q.0) (text_decides p.1 q.1))
    (λ h. λ i. (h.0 i, h.1 i))
    (λ h. (ap (λ (e : List ℕ × List ℕ). e.0) h, ap (λ (e : List ℕ × List ℕ). e.1) h))

pub serials_decide : (a b : SerialNumber) → Decides (eq_serials.it a b) (serials a ≡ serials b)
serials_decide a b = pointwise_view same_entry scheme_and_number entry_decides a.0.entries b.0.entries

pub language_decides : (a b : LanguageIdentifier) → Decides (eq_language.it a b) (language_of a ≡ language_of b)
language_decides a b = search rules

years : (x y : ℤ) → Decides (int_eq x y) (x ≡ y)
years = signed_Decides

numbers : (x y : ℕ) → Decides (nat_eq x y) (x ≡ y)
numbers x y = search rules

seasons : (a b : Season) → Decides (eq_season.it a b) (a ≡ b)
seasons a b = search rules

truths : (p q : Bool) → Decides (beq p q) (p ≡ q)
truths p q = search rules

pub date_decides : (a b : Date) → Decides (eq_date.it a b) (date_view a ≡ date_view b)
date_decides a b = through _ (both _ _ (years a.year b.year) (both _ _ (option_same nat_eq numbers a.month b.month) (both _ _ (option_same nat_eq numbers a.day b.day) (both _ _ (option_same eq_season.it seasons a.season b.season) (truths a.approximate b.approximate)))))
    (λ h. let e = h.0 in let f = h.1.0 in let g = h.1.1.0 in let j = h.1.1.1.0 in let k = h.1.1.1.1 in cc)
    (λ h. (ap (λ (d : DateParts). d.year) h, (ap (λ (d : DateParts). d.month) h, (ap (λ (d : DateParts). d.day) h, (ap (λ (d : DateParts). d.season) h, ap (λ (d : DateParts). d.approximate) h)))))

pub url_decides : (a b : QualifiedUrl) → Decides (eq_url.it a b) ((serialize a.value ≡ serialize b.value) × (option_map date_view a.visit_date ≡ option_map date_view b.visit_date))
url_decides a b = both _ _ (bytes_eq-Decides (serialize a.value) (serialize b.value)) (option_view eq_date.it date_view date_decides a.visit_date b.visit_date)

month_prop : (o : Option ℕ) → IsProp (ForSome o (λ m. m ≤ 11))
month_prop o = Π_prop (λ x. →_prop le_prop)

day_prop : (o : Option ℕ) → IsProp (ForSome o (λ d. d ≤ 30))
day_prop o = Π_prop (λ x. →_prop le_prop)

-- dates with the same parts are equal
pub same_date : (a b : Date) → date_view a ≡ date_view b → a ≡ b
same_date a b h = λ i. record {
  year = (h i).year;
  month = (h i).month;
  day = (h i).day;
  season = (h i).season;
  approximate = (h i).approximate;
  month_of_year = is_prop→PathP (λ j. ForSome (h j).month (λ m. m ≤ 11)) (λ j. month_prop (h j).month) a.month_of_year b.month_of_year i;
  day_of_month = is_prop→PathP (λ j. ForSome (h j).day (λ d. d ≤ 30)) (λ j. day_prop (h j).day) a.day_of_month b.day_of_month i;
}

same_optional_date : (x y : Option Date) → option_map date_view x ≡ option_map date_view y → x ≡ y
same_optional_date None None h = refl
same_optional_date None (Some y) h = cc
same_optional_date (Some x) None h = cc
same_optional_date (Some x) (Some y) h = let e : date_view x ≡ date_view y = cc in ap (λ (d : Date). Some d) (same_date x y e)

-- `==` of valid and canonical addresses, such as the parser returns, compares their parts
pub address_decides : (a b : QualifiedUrl) → IsValid a.value → IsValid b.value → IsCanonical a.value → IsCanonical b.value → Decides (eq_url.it a b) (address_of a ≡ address_of b)
address_decides a b valid_a valid_b canonical_a canonical_b = through _ (url_decides a b)
    (λ h. λ i. record { value = serialize_injective a.value b.value valid_a canonical_a valid_b canonical_b h.0 i; visit_date = same_optional_date a.visit_date b.visit_date h.1 i })
    (λ h. (ap (λ (u : Address). serialize u.value) h, ap (λ (u : Address). option_map date_view u.visit_date) h))
