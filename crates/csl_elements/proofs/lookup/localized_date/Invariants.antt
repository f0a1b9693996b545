use Rattle.std.proofs.Common.{◌≡◌, drop}
use Rattle.csl_elements.specs.Lookup.{date_in_form}
use Rattle.csl_elements.proofs.lookup.localized_date.Given as goal

abbrev pub invariant-loop-locale : goal.invariant-loop-locale
invariant-loop-locale l = date_in_form (drop l.locale-index l.locales) l.form ≡ date_in_form l.locales l.form
