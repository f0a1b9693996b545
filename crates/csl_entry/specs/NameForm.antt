-- The forms of a name (CSL 1.0.2, Disambiguation, `disambiguate-add-givenname`), from the least
-- shown to the most: counted only; short with initials; short in full; long with initials; long in
-- full. The last two show the given name. The fuller form of short with initials is long with
-- initials. The fuller form of short in full and of long with initials is long in full, if full
-- names may be shown. No other form has a fuller form (`fuller_form`).
-- To disambiguate a name further, an absent form becomes the default form, and any other becomes
-- its fuller form with full names allowed, if there is one (`further_form`).
use Rattle.std.specs.Prelude.{Bool, true, false, Option, Some, None, ℕ, zero, suc, if◌then◌else◌}
use Rattle.std.specs.Option.{option_or}
use Rattle.std.specs.Ordering.{nat_cmp}
use Rattle.std.specs.declared.cmp.Ordering.{Ordering}
use Rattle.csl_entry.specs.declared.forms.name_form.DisambiguatedNameForm.{DisambiguatedNameForm}
use Rattle.csl_entry.specs.declared.forms.name_form.DisambiguatedNameForm.TheVariants.{Count, ShortInitialized, ShortFull, LongInitialized, LongFull}

-- the place of a form, from the least to the most that is shown
abbrev pub form_place : DisambiguatedNameForm → ℕ
form_place Count = 0
form_place ShortInitialized = 1
form_place ShortFull = 2
form_place LongInitialized = 3
form_place LongFull = 4

-- whether a form shows the given name
abbrev pub shows_given_name : DisambiguatedNameForm → Bool
shows_given_name Count = false
shows_given_name ShortInitialized = false
shows_given_name ShortFull = false
shows_given_name LongInitialized = true
shows_given_name LongFull = true

-- the form that shows more of the name, if there is one; `full` allows full given names
abbrev pub fuller_form : Bool → DisambiguatedNameForm → Option DisambiguatedNameForm
fuller_form full Count = None
fuller_form full ShortInitialized = Some LongInitialized
fuller_form full ShortFull = (if full then Some LongFull else None)
fuller_form full LongInitialized = (if full then Some LongFull else None)
fuller_form full LongFull = None

-- forms in the order of how much of the name they show
abbrev pub form_cmp : DisambiguatedNameForm → DisambiguatedNameForm → Ordering
form_cmp a b = nat_cmp (form_place a) (form_place b)

-- the form that disambiguates a name further, if there is one; an absent form becomes the default
-- form
abbrev pub further_form : DisambiguatedNameForm → Option DisambiguatedNameForm → Option DisambiguatedNameForm
further_form default None = Some default
further_form default (Some form) = fuller_form true form

-- the form after n steps of `further_form`
abbrev pub disambiguated_form : DisambiguatedNameForm → ℕ → Option DisambiguatedNameForm → Option DisambiguatedNameForm
disambiguated_form default zero form = form
disambiguated_form default (suc n) form = option_or (further_form default (disambiguated_form default n form)) (disambiguated_form default n form)
