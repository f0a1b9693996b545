use Rattle.std.proofs.Common.{◌≡◌, ◌+◌, Some, map, drop, option_map, find}
use Rattle.std.specs.HashMap.{get}
use Rattle.std.specs.Option.{option_or}
use Rattle.csl_elements.specs.declared.term.Term.{Term}
use Rattle.csl_elements.specs.declared.term.TermForm.{TermForm}
use Rattle.csl_elements.specs.Locale.{term_view, terms_of}
use Rattle.csl_elements.specs.Term.{is_term, in_form}
use Rattle.csl_style.specs.TermPlaces.{entry_at, same_key}
use Rattle.csl_style.proofs.term_places.first_entries.Given as goal

abbrev pub invariant-loop-i : goal.invariant-loop-i
invariant-loop-i l = (term : Term) (form : TermForm)
    → option_map (entry_at l.locales) (get same_key l.entries (term, form)) ≡ option_map Some (in_form (map terms_of (drop l.i l.locales)) term form)

abbrev pub invariant-loop-row : goal.invariant-loop-row
invariant-loop-row l = (term : Term) (form : TermForm)
    → option_map (entry_at l.locales) (get same_key l.entries (term, form))
    ≡ option_map Some (option_or (find (is_term term form) (map term_view (drop l.row l.terms.items))) (in_form (map terms_of (drop (l.i + 1) l.locales)) term form))
