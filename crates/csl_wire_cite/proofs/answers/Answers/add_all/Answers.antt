use Rattle.std.proofs.Common.{◌≡◌, refl, sym, subst}
use Rattle.serde_json.specs.View.{members_view, view}
use Rattle.csl_wire_cite.specs.Variables.{kept_answers, AddsMember, AddsMembers}
use Rattle.csl_wire_cite.proofs.Adds.{first_member}
use Rattle.csl_wire_cite.proofs.answers.Answers.add_all.Goals as goal

pub loop-name-preserved : goal.loop-name-preserved
loop-name-preserved c after rest =
    let now = kept_answers c.loop-name.self in
    let next = kept_answers c.add_member.new.self in
    let first = subst (λ w. AddsMember w (view c.in-Some.value.now) now next) c.as_str.ensures.value c.in_ok-add_member.ensures in
    let both = first_member c.in-Some.name.now c.in-Some.value.now c.next.new.self now next after first rest in
    c.loop-name.invariant after (subst (λ es. AddsMembers (members_view es) now after) (sym c.in-Some.ensures.steps) both)

pub returns : goal.returns
returns c =
    let last = kept_answers c.loop-name.self in
    c.loop-name.invariant last (subst (λ es. AddsMembers (members_view es) last last) (sym c.in-None.ensures.steps.0) refl)
