use Rattle.std.proofs.Common.{◌≡◌, map, drop}
use Rattle.csl_common.specs.Lists.{first_some}
use Rattle.csl_elements.specs.Locale.{terms_of}
use Rattle.csl_elements.specs.Term.{in_form}
use Rattle.csl_style.proofs.term_places.TermPlaces.found_term.Given as goal

abbrev pub invariant-loop-form : goal.invariant-loop-form
invariant-loop-form l =
    first_some (in_form (map terms_of l.locales) l.term) (drop l.form-index l.form-items)
    ≡ first_some (in_form (map terms_of l.locales) l.term) l.form-items
