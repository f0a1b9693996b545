use Rattle.std.proofs.Common.{◌≡◌, drop}
use Rattle.std.specs.Prelude.{find}
use Rattle.csl_elements.specs.Lookup.{is_in_form}
use Rattle.csl_elements.proofs.locale.Locale.date.Given as goal

abbrev pub invariant-loop-date : goal.invariant-loop-date
invariant-loop-date l = find (is_in_form l.form) (drop l.date-index l.date-items) ≡ find (is_in_form l.form) l.date-items
