use Rattle.std.proofs.Common.{◌≡◌, ◌+◌, map, drop}
use Rattle.std.specs.HashMap.{get}
use Rattle.std.specs.Option.{option_or}
use Rattle.csl_common.specs.Lists.{first_some}
use Rattle.csl_elements.specs.declared.term.Term.{Term}
use Rattle.csl_elements.specs.Locale.{term_view, terms_of}
use Rattle.csl_elements.specs.Term.{same_term, long_gender, term_gender}
use Rattle.csl_style.proofs.term_places.first_genders.Given as goal

abbrev pub invariant-loop-i : goal.invariant-loop-i
invariant-loop-i l = (term : Term) → get same_term l.genders term ≡ term_gender (map terms_of (drop l.i l.locales)) term

abbrev pub invariant-loop-row : goal.invariant-loop-row
invariant-loop-row l = (term : Term)
    → get same_term l.genders term
    ≡ option_or (first_some (long_gender term) (map term_view (drop l.row l.terms.items))) (term_gender (map terms_of (drop (l.i + 1) l.locales)) term)
