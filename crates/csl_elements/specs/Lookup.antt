-- The date of a form is the first date of that form, over the locales in order (CSL 1.0.2,
-- Localized Date Formats).
use Rattle.std.specs.Prelude.{Bool, List, Option, Some, find}
use Rattle.std.specs.Option.{option_eq}
use denote.Enum.Bare.{sameb}
use Rattle.csl_elements.specs.declared.date.Date.{Date}
use Rattle.csl_elements.specs.declared.date.DateForm.{DateForm}
use Rattle.csl_elements.specs.contracts.date.DateForm.{the_type}
use Rattle.csl_elements.specs.declared.locale.Locale.{Locale}
use Rattle.csl_common.specs.Lists.{first_some}

-- whether a date has this form
abbrev pub is_in_form : DateForm → Date → Bool
is_in_form form d = option_eq (sameb the_type) d.form (Some form)

-- the first date of that form, over the locales in order
abbrev pub date_in_form : List Locale → DateForm → Option Date
date_in_form locales form = first_some (λ l. find (is_in_form form) l.dates.items) locales
