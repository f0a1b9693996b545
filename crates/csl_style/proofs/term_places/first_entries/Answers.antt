use Rattle.std.proofs.Common.{◌≡◌, ◌+◌, ◌-◌, ◌<◌, length, map, drop, get_or, sym, ap, arith}
use Rattle.std.specs.HashMap.{get}
use Rattle.csl_elements.specs.Locale.{terms_of}
use Rattle.csl_elements.specs.Term.{in_form}
use Rattle.csl_elements.specs.declared.locale.Locale.{Locale}
use Rattle.csl_style.specs.TermPlaces.{same_key}
use Rattle.csl_style.proofs.TermPlacing.{with_entry}
use Rattle.csl_style.proofs.term_places.first_entries.Goals as goal

pub loop-row-preserved : goal.loop-row-preserved
loop-row-preserved c = λ term form.
    let ls = c.args.locales.now in
    let i = c.loop-i.i - 1 in
    let row = c.loop-row.row - 1 in
    let l : Locale = get_or ls i c.index-locales-i.result in
    let is-l : l ≡ get_or ls i l = sym (ap (get_or ls i) (sym c.index-locales-i.is)) in
    let within : i < length ls = omega arith in
    let in-terms : row < length l.terms.items = omega (arith, l.terms.ok.0) in
    let next : c.loop-row.row ≡ row + 1 = omega arith in
    with_entry ls (record { locale = i; row = row }) l c.index-entry.result.now c.loop-row.row within is-l in-terms next c.index-entry.ensures term form
    (get same_key c.insert.new.self (term, form)) (get same_key c.loop-row.entries (term, form)) (in_form (map terms_of (drop (i + 1) ls)) term form)
    (c.in_ok-insert.ensures.updates.0 (term, form)) (c.loop-row.invariant term form)
