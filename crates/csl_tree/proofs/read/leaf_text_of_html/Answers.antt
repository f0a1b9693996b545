use Rattle.std.proofs.Common.{rules, ◌≡◌, true, reverse, refl, sym, subst, ◌∙◌}
use Rattle.std.specs.Prelude.{string_bytes, Some, None}
use Rattle.csl_tree.specs.Read.{IsReadTo, within_after_mark}
use Rattle.csl_tree.proofs.ReadSoFar.{read_mark, read_all, refuse_mark, refuse_rest, mark_shortens, fits, fits_not, one_text}
use Rattle.csl_tree.proofs.Theorems.{html_has_one_text}
use Rattle.csl_tree.proofs.read.leaf_text_of_html.Goals as goal

pub loop-mark-smaller : goal.loop-mark-smaller
loop-mark-smaller c = mark_shortens c.loop-mark.rest.now c.in-Some.next.now c.in-Some.mark c.in-Some.ensures.found

pub loop-mark-preserved : goal.loop-mark-preserved
loop-mark-preserved c =
    let w = reverse c.loop-mark.reading.within.items in
    let v = reverse c.take.new.self.within.items in
    let fit : within_after_mark w c.in-Some.mark ≡ Some v = fits c.in_ok-take.field-0 v (within_after_mark w c.in-Some.mark) c.in_ok-take.ensures.within (search rules) in
    let r = read_mark c.args.html.now c.loop-mark.rest.now c.in-Some.next.now w v (string_bytes c.loop-mark.reading.leaves) c.in-Some.mark c.loop-mark.invariant.1 c.in-Some.ensures.found fit in
    (search rules, subst (IsReadTo c.args.html.now c.in-Some.next.now v) (sym c.in_ok-take.ensures.leaves) r)

pub returns-then-not-branch-clause-not_html : goal.returns-then-not-branch-clause-not_html
returns-then-not-branch-clause-not_html c e =
    let w = reverse c.loop-mark.reading.within.items in
    let v = reverse c.take.new.self.within.items in
    let none : within_after_mark w c.in-Some.mark ≡ None = fits_not c.in_ok-take.field-0 v (within_after_mark w c.in-Some.mark) c.in_ok-take.ensures.within (search rules) in
    refuse_mark c.args.html.now c.loop-mark.rest.now c.in-Some.next.now w (string_bytes c.loop-mark.reading.leaves) c.in-Some.mark c.loop-mark.invariant.1 c.in-Some.ensures.found none

pub returns-then-not-has_ended-clause-not_html : goal.returns-then-not-has_ended-clause-not_html
returns-then-not-has_ended-clause-not_html c e =
    let w = reverse c.loop-mark.reading.within.items in
    refuse_rest c.args.html.now c.loop-mark.rest.now w (string_bytes c.loop-mark.reading.leaves) c.loop-mark.invariant.1 c.in_default.ensures.none
    (λ f g. cc (sym c.if-not-has_ended.true ∙ c.has_ended.ensures.1 (f, g)))

pub returns-clause-found : goal.returns-clause-found
returns-clause-found c =
    let w = reverse c.loop-mark.reading.within.items in
    let is : c.has_ended.result ≡ true = c.if-not-has_ended.false in
    let ended = c.has_ended.ensures.0 is in
    read_all c.args.html.now c.loop-mark.rest.now w (string_bytes c.loop-mark.reading.leaves) c.loop-mark.invariant.1 ended.0 ended.1

pub returns-clause-only : goal.returns-clause-only
returns-clause-only c leaves h = one_text c.args.html.now (string_bytes c.loop-mark.reading.leaves) leaves (returns-clause-found c) h

pub returns-then-not-branch-clause-only : goal.returns-then-not-branch-clause-only
returns-then-not-branch-clause-only c leaves h = absurd (returns-then-not-branch-clause-not_html c refl leaves h)

pub returns-then-not-has_ended-clause-only : goal.returns-then-not-has_ended-clause-only
returns-then-not-has_ended-clause-only c leaves h = absurd (returns-then-not-has_ended-clause-not_html c refl leaves h)

pub returns-clause-refused : goal.returns-clause-refused
returns-clause-refused c none = absurd (none _ (returns-clause-found c))

pub returns-in_err-take-clause-unique : goal.returns-in_err-take-clause-unique
returns-in_err-take-clause-unique c x y h k = html_has_one_text c.args.html.now x y h k

pub returns-then-not-branch-clause-unique : goal.returns-then-not-branch-clause-unique
returns-then-not-branch-clause-unique c x y h k = html_has_one_text c.args.html.now x y h k

pub returns-then-not-has_ended-clause-unique : goal.returns-then-not-has_ended-clause-unique
returns-then-not-has_ended-clause-unique c x y h k = html_has_one_text c.args.html.now x y h k

pub returns-clause-unique : goal.returns-clause-unique
returns-clause-unique c x y h k = html_has_one_text c.args.html.now x y h k
