-- The forms of a list after one more step at one place.
use Rattle.std.proofs.Common.{◌≡◌, ◌≢◌, refl, sym, ◌∙◌, ap, ℕ, zero, suc, ◌+◌, ◌<◌, ◌≤◌, List, [], ◌∷◌, length, take, map, count_by, Bool, true, false, ◌||◌, ◌==◌, Option, Some, None, is_some, slice_index_or, slice_set, arith, lit<}
use Rattle.std.specs.List.{enumerate_from, sum_by}
use Rattle.std.proofs.lemmas.List.{set-get_or, length-map}
use Rattle.std.proofs.lemmas.List.FromFn.{length-enumerate_from}
use Rattle.std.proofs.lemmas.List.Sums.{sum_by-set, count_by_more_yes, count_by_more_no}
use Rattle.std.proofs.lemmas.Bool.Decides.{nat_tests}
use Rattle.std.specs.Option.{option_or}
use Rattle.csl_entry.specs.declared.forms.name_form.DisambiguatedNameForm.{DisambiguatedNameForm}
use Rattle.csl_entry.specs.declared.forms.name_form.DisambiguatedNameForm.TheVariants.{Count, ShortInitialized, ShortFull, LongInitialized, LongFull}
use Rattle.csl_entry.specs.NameForm.{form_place, further_form, disambiguated_form}
use Rattle.csl_entry.specs.NameProperties.{NameForms, disambiguated_forms}

-- the forms of the names from place n on, each after the number of steps that c gives for its place
abbrev stepped : DisambiguatedNameForm → (ℕ → ℕ) → ℕ → NameForms → NameForms
stepped default c n forms = map (λ f. disambiguated_form default (c f.0) f.1) (enumerate_from n forms)

abbrev one_step : DisambiguatedNameForm → Option DisambiguatedNameForm → Option DisambiguatedNameForm
one_step default form = option_or (further_form default form) form

-- the same number of steps at each place gives the same forms
stepped_alike : (default : DisambiguatedNameForm) (b c : ℕ → ℕ) (n : ℕ) (forms : NameForms) → ((j : ℕ) → n ≤ j → c j ≡ b j) → stepped default c n forms ≡ stepped default b n forms
stepped_alike default b c n [] same = refl
stepped_alike default b c n (f ∷ forms) same =
    λ i. disambiguated_form default (same n (omega arith) i) f ∷ stepped_alike default b c (n + 1) forms (λ j h. same j (omega (arith, h))) i

-- one more step at one place, and the same number at each other place
stepped_more : (default : DisambiguatedNameForm) (b c : ℕ → ℕ) (n k m : ℕ) (forms : NameForms) → n + k ≡ m → k < length forms → c m ≡ b m + 1 → ((j : ℕ) → j ≢ m → c j ≡ b j) → stepped default c n forms ≡ slice_set (stepped default b n forms) k (one_step default (slice_index_or (stepped default b n forms) k None))
stepped_more default b c n k m [] e inside more same = absurd (omega (arith, inside))
stepped_more default b c n zero m (f ∷ forms) e inside more same =
    let here : n ≡ m = omega (arith, e) in
    let steps : c n ≡ suc (b n) = ap c here ∙ more ∙ omega arith ∙ ap (λ (j : ℕ). suc (b j)) (sym here) in
    λ i. disambiguated_form default (steps i) f ∷ stepped_alike default b c (n + 1) forms (λ j h. same j (λ at. omega (arith, h, at))) i
stepped_more default b c n (suc k) m (f ∷ forms) e inside more same =
    let other : n ≢ m = λ at. omega (arith, e, at) in
    λ i. disambiguated_form default (same n other i) f ∷ stepped_more default b c (n + 1) k m forms (omega (arith, e)) (omega (arith, inside)) more same i

-- ---- a form that changes shows more

abbrev form_rank : Option DisambiguatedNameForm → ℕ
form_rank None = 0
form_rank (Some form) = 1 + form_place form

-- how much of the names of a list is shown
abbrev pub rank : NameForms → ℕ
rank forms = sum_by form_rank forms

further_grows : (default : DisambiguatedNameForm) (form : Option DisambiguatedNameForm) → is_some (further_form default form) ≡ true → form_rank form < form_rank (one_step default form)
further_grows default None h = omega arith
further_grows default (Some Count) h = cc
further_grows default (Some ShortInitialized) h = lit< tt
further_grows default (Some ShortFull) h = lit< tt
further_grows default (Some LongInitialized) h = lit< tt
further_grows default (Some LongFull) h = cc

further_stays : (default : DisambiguatedNameForm) (form : Option DisambiguatedNameForm) → is_some (further_form default form) ≡ false → one_step default form ≡ form
further_stays default None h = cc
further_stays default (Some Count) h = refl
further_stays default (Some ShortInitialized) h = cc
further_stays default (Some ShortFull) h = cc
further_stays default (Some LongInitialized) h = cc
further_stays default (Some LongFull) h = refl

-- if there is a further form, more is shown
pub step_grows : (default : DisambiguatedNameForm) (forms : NameForms) (k : ℕ) → k < length forms → is_some (further_form default (slice_index_or forms k None)) ≡ true → rank forms < rank (slice_set forms k (one_step default (slice_index_or forms k None)))
step_grows default forms k inside h =
    let form = slice_index_or forms k None in
    omega (arith, sum_by-set form_rank forms k (one_step default form) None inside, further_grows default form h)

-- if there is none, nothing changes
pub step_stays : (default : DisambiguatedNameForm) (forms : NameForms) (k : ℕ) → is_some (further_form default (slice_index_or forms k None)) ≡ false → slice_set forms k (one_step default (slice_index_or forms k None)) ≡ forms
step_stays default forms k h =
    ap (λ (f : Option DisambiguatedNameForm). slice_set forms k f) (further_stays default (slice_index_or forms k None) h) ∙ set-get_or forms k None

-- one more place gives one more step at that place
each_more : (default : DisambiguatedNameForm) (places : List ℕ) (i k : ℕ) (forms : NameForms) → i < length places → slice_index_or places i 0 ≡ k → k < length forms → disambiguated_forms default (take (i + 1) places) forms ≡ slice_set (disambiguated_forms default (take i places) forms) k (one_step default (slice_index_or (disambiguated_forms default (take i places) forms) k None))
each_more default places i k forms within at inside =
    stepped_more default (λ j. count_by (λ m. m == j) (take i places)) (λ j. count_by (λ m. m == j) (take (i + 1) places)) 0 k k forms (omega arith) inside
    (count_by_more_yes (λ m. m == k) places i 0 within (grind (arith, nat_tests, at)))
    (λ j other. count_by_more_no (λ m. m == j) places i 0 within (grind (arith, nat_tests, at)))

untouched : (default : DisambiguatedNameForm) (n : ℕ) (forms : NameForms) → stepped default (λ j. 0) n forms ≡ forms
untouched default n [] = refl
untouched default n (f ∷ forms) = ap (λ (fs : NameForms). f ∷ fs) (untouched default (n + 1) forms)

length-each : (default : DisambiguatedNameForm) (places : List ℕ) (forms : NameForms) → length (disambiguated_forms default places forms) ≡ length forms
length-each default places forms = length-map (enumerate_from 0 forms) (λ f. disambiguated_form default (count_by (λ k. k == f.0) places) f.1) ∙ length-enumerate_from 0 forms

-- After steps at some places: the forms are those after these steps. If `changed` is false, nothing
-- changed. If it is true, more is shown.
pub record IsToldApart (default : DisambiguatedNameForm) (places : List ℕ) (start now : NameForms) (changed : Bool) : Type 0 where
  pub forms : now ≡ disambiguated_forms default places start
  pub still : changed ≡ false → now ≡ start
  pub moved : changed ≡ true → rank start < rank now

-- before the first place
pub told_none : (default : DisambiguatedNameForm) (forms : NameForms) → IsToldApart default [] forms forms false
told_none default forms = record { forms = sym (untouched default 0 forms); still = λ h. refl; moved = λ h. cc }

neither : (a b : Bool) → (a || b) ≡ false → (a ≡ false) × (b ≡ false)
neither true b h = cc
neither false b h = (refl, h)

grows : (a b : Bool) (r s t : ℕ) → (a ≡ true → r < s) → (a ≡ false → r ≡ s) → (b ≡ true → s < t) → (b ≡ false → s ≡ t) → (a || b) ≡ true → r < t
grows true true r s t up same more still h = omega (arith, up refl, more refl)
grows true false r s t up same more still h = omega (arith, up refl, still refl)
grows false true r s t up same more still h = omega (arith, same refl, more refl)
grows false false r s t up same more still h = cc

-- after one more place
pub told_more : (default : DisambiguatedNameForm) (places : List ℕ) (i : ℕ) (start now : NameForms) (changed : Bool) → i < length places → slice_index_or places i 0 < length now → IsToldApart default (take i places) start now changed
    → IsToldApart default (take (i + 1) places) start (slice_set now (slice_index_or places i 0) (one_step default (slice_index_or now (slice_index_or places i 0) None))) (changed || is_some (further_form default (slice_index_or now (slice_index_or places i 0) None)))
told_more default places i start now changed within inside told =
    let k = slice_index_or places i 0 in
    let more = is_some (further_form default (slice_index_or now k None)) in
    let there : k < length start = omega (arith, inside, ap length told.forms, length-each default (take i places) start) in
    record {
      forms = (λ j. slice_set (told.forms j) k (one_step default (slice_index_or (told.forms j) k None))) ∙ sym (each_more default places i k start within refl there);
      still = λ h. step_stays default now k (neither changed more h).1 ∙ told.still (neither changed more h).0;
      moved = λ h. grows changed more (rank start) (rank now) (rank (slice_set now k (one_step default (slice_index_or now k None)))) told.moved (λ e. sym (ap rank (told.still e)))
          (λ e. step_grows default now k inside e) (λ e. sym (ap rank (step_stays default now k e))) h;
    }

-- if the forms stayed the same, `changed` is false
pub told_answer : (start now : NameForms) (changed : Bool) → (changed ≡ true → rank start < rank now) → now ≡ start → changed ≡ false
told_answer start now true moved e = absurd (omega (arith, moved refl, ap rank e))
told_answer start now false moved e = refl
