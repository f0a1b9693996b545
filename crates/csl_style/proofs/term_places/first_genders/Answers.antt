use Rattle.std.proofs.Common.{◌≡◌, ◌+◌, ◌-◌, ◌<◌, length, map, drop, get_or, sym, ◌∙◌, arith}
use Rattle.std.specs.HashMap.{get}
use Rattle.std.proofs.lemmas.Bool.{false≢true}
use Rattle.csl_elements.specs.Locale.{terms_of}
use Rattle.csl_elements.specs.Term.{same_term, term_gender}
use Rattle.csl_elements.specs.declared.locale.Locale.{Locale}
use Rattle.csl_style.proofs.TermPlacing.{with_gender, without_gender}
use Rattle.csl_style.proofs.term_places.first_genders.Goals as goal

pub loop-row-preserved-in_ok-insert : goal.loop-row-preserved-in_ok-insert
loop-row-preserved-in_ok-insert c = λ term.
    let ls = c.args.locales.now in
    let i = c.loop-i.i - 1 in
    let row = c.loop-row.row - 1 in
    let l : Locale = get_or ls i c.index-locales-i.result in
    let in-terms : row < length l.terms.items = omega (arith, l.terms.ok.0) in
    let next : c.loop-row.row ≡ row + 1 = omega arith in
    with_gender l.terms.items row c.loop-row.row c.index-entry.result.now in-terms next c.index-entry.ensures term
    (get same_term c.loop-row.genders term) (term_gender (map terms_of (drop (i + 1) ls)) term) (c.loop-row.invariant term)
    c.in-Some.gender (get same_term c.insert.new.self term) (sym c.eq.ensures ∙ c.if-eq.true) c.in-Some.is (c.in_ok-insert.ensures.updates.0 term)

pub loop-row-preserved-in_default : goal.loop-row-preserved-in_default
loop-row-preserved-in_default c = λ term.
    let ls = c.args.locales.now in
    let i = c.loop-i.i - 1 in
    let row = c.loop-row.row - 1 in
    let l : Locale = get_or ls i c.index-locales-i.result in
    let in-terms : row < length l.terms.items = omega (arith, l.terms.ok.0) in
    let next : c.loop-row.row ≡ row + 1 = omega arith in
    without_gender l.terms.items row c.loop-row.row c.index-entry.result.now in-terms next c.index-entry.ensures term
    (get same_term c.loop-row.genders term) (term_gender (map terms_of (drop (i + 1) ls)) term) (c.loop-row.invariant term)
    (λ long. c.in_default.is)

pub loop-row-preserved : goal.loop-row-preserved
loop-row-preserved c = λ term.
    let ls = c.args.locales.now in
    let i = c.loop-i.i - 1 in
    let row = c.loop-row.row - 1 in
    let l : Locale = get_or ls i c.index-locales-i.result in
    let in-terms : row < length l.terms.items = omega (arith, l.terms.ok.0) in
    let next : c.loop-row.row ≡ row + 1 = omega arith in
    without_gender l.terms.items row c.loop-row.row c.index-entry.result.now in-terms next c.index-entry.ensures term
    (get same_term c.loop-row.genders term) (term_gender (map terms_of (drop (i + 1) ls)) term) (c.loop-row.invariant term)
    (λ long. absurd (false≢true (sym c.if-eq.false ∙ c.eq.ensures ∙ long)))
