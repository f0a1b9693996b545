use Rattle.std.proofs.Common.{rules, ◌∙◌}
use Rattle.lit_model.specs.Person.{person_view}
use Rattle.lit_model.specs.contracts.person.PersonPartialEq.TheImpl.{eq-value as eq_person}
use Rattle.lit_model.proofs.PageEqual.{pointwise_view}
use Rattle.lit_model.proofs.PersonEqual.{person_decides}
use Rattle.lit_model.proofs.SamePersons.{persons_same}
use Rattle.lit_model.proofs.same_person.are_same_persons.Goals as goal

pub returns-clause-texts : goal.returns-clause-texts
returns-clause-texts c = let d = pointwise_view eq_person.it person_view person_decides c.args.persons.now c.args.others.now in search (rules, d)

pub returns-clause-test : goal.returns-clause-test
returns-clause-test c = c.eq.ensures ∙ persons_same c.args.persons.now c.args.others.now
