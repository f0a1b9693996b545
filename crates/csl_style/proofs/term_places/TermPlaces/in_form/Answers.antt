use Rattle.std.proofs.Common.{◌<◌, length, map, arith}
use Rattle.std.specs.HashMap.{get}
use Rattle.csl_elements.specs.Locale.{terms_of}
use Rattle.csl_elements.specs.Term.{in_form}
use Rattle.csl_style.specs.TermPlaces.{same_key}
use Rattle.csl_style.proofs.TermPlacing.{place-of, no-place-of, in-list-of, in-terms-of, entry-of}
use Rattle.csl_style.proofs.term_places.TermPlaces.in_form.Goals as goal

pub returns-in_err-place : goal.returns-in_err-place
returns-in_err-place c =
    rw c.from_residual.ensures (no-place-of c.args.locales.now (get same_key c.args.self.now.entries (c.args.term, c.args.form)) (in_form (map terms_of c.args.locales.now) c.args.term c.args.form)
    (c.requires.0 c.args.term c.args.form) c.in_err-place.ensures.value)

pub offset_bounds-locales-place : goal.offset_bounds-locales-place
offset_bounds-locales-place c =
    let ls = c.args.locales.now in
    let p = c.in_ok-place.place.now in
    let f = in_form (map terms_of ls) c.args.term c.args.form in
    let at = place-of ls p (get same_key c.args.self.now.entries (c.args.term, c.args.form)) f (c.requires.0 c.args.term c.args.form) c.in_ok-place.ensures.value in
    let within : p.locale < length ls = in-list-of ls p f at in
    omega (arith, within)

pub bounds-locales-place : goal.bounds-locales-place
bounds-locales-place c =
    let ls = c.args.locales.now in
    let p = c.in_ok-place.place.now in
    let f = in_form (map terms_of ls) c.args.term c.args.form in
    let at = place-of ls p (get same_key c.args.self.now.entries (c.args.term, c.args.form)) f (c.requires.0 c.args.term c.args.form) c.in_ok-place.ensures.value in
    in-list-of ls p f at

pub index-requires : goal.index-requires
index-requires c =
    let ls = c.args.locales.now in
    let p = c.in_ok-place.place.now in
    let f = in_form (map terms_of ls) c.args.term c.args.form in
    let at = place-of ls p (get same_key c.args.self.now.entries (c.args.term, c.args.form)) f (c.requires.0 c.args.term c.args.form) c.in_ok-place.ensures.value in
    in-terms-of ls p f at c.index-locales-place.result

pub returns : goal.returns
returns c =
    let ls = c.args.locales.now in
    let p = c.in_ok-place.place.now in
    let f = in_form (map terms_of ls) c.args.term c.args.form in
    let at = place-of ls p (get same_key c.args.self.now.entries (c.args.term, c.args.form)) f (c.requires.0 c.args.term c.args.form) c.in_ok-place.ensures.value in
    entry-of ls p f at c.index-locales-place.result c.index.result.now c.index.ensures
