use Rattle.std.proofs.Common.{◌≡◌, sym, subst}
use Rattle.serde_json.specs.View.{view}
use Rattle.csl_wire_cite.specs.Variables.{kept_answers, AddsAnswer}
use Rattle.csl_wire_cite.proofs.answers.Answers.add.Goals as goal

pub returns-in_ok-add_text-in-Standard : goal.returns-in_ok-add_text-in-Standard
returns-in_ok-add_text-in-Standard c = subst (λ v. AddsAnswer v (view c.args.value.now) (kept_answers c.args.self.now) (kept_answers c.add_text.new.self)) (sym c.in-Standard.is) c.in_ok-add_text-in-Standard.ensures

pub returns-in_ok-add_number-in-Number : goal.returns-in_ok-add_number-in-Number
returns-in_ok-add_number-in-Number c = subst (λ v. AddsAnswer v (view c.args.value.now) (kept_answers c.args.self.now) (kept_answers c.add_number.new.self)) (sym c.in-Number.is) c.in_ok-add_number-in-Number.ensures

pub returns-in_ok-add_pages-in-Page : goal.returns-in_ok-add_pages-in-Page
returns-in_ok-add_pages-in-Page c = subst (λ v. AddsAnswer v (view c.args.value.now) (kept_answers c.args.self.now) (kept_answers c.add_pages.new.self)) (sym c.in-Page.is) c.in_ok-add_pages-in-Page.ensures

pub returns-in_ok-add_persons-in-Name : goal.returns-in_ok-add_persons-in-Name
returns-in_ok-add_persons-in-Name c = subst (λ v. AddsAnswer v (view c.args.value.now) (kept_answers c.args.self.now) (kept_answers c.add_persons.new.self)) (sym c.in-Name.is) c.in_ok-add_persons-in-Name.ensures

pub returns-in_ok-add_date-in-Date : goal.returns-in_ok-add_date-in-Date
returns-in_ok-add_date-in-Date c = subst (λ v. AddsAnswer v (view c.args.value.now) (kept_answers c.args.self.now) (kept_answers c.add_date.new.self)) (sym c.in-Date.is) c.in_ok-add_date-in-Date.ensures
