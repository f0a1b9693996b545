use Rattle.std.proofs.Common.{◌∙◌, ap, map, Some, None, Vec, Global}
use Rattle.lit_model.specs.Person.{person_view}
use Rattle.lit_model.specs.declared.person.Person.{Person}
use Rattle.csl_elements.specs.contracts.taxonomy.NameVariablePartialEq.TheImpl.{eq-value as same}
use Rattle.csl_entry.specs.Answers.{cow_view}
use Rattle.csl_entry.specs.Snapshot.{persons_or_none}
use Rattle.csl_entry.proofs.Kept.{viewed, ok_through}
use Rattle.csl_entry.proofs.snapshot.answers.SnapshotEntryLike.resolve_name_variable.Goals as goal

pub returns-in-Some : goal.returns-in-Some
returns-in-Some c =
    ok_through c.name_answer.result (λ found. map (cow_view person_view) found.items) _ _ c.name_answer.ensures
    (ap (map person_view) c.deref-in-Some.ensures.value ∙ ap persons_or_none (viewed same.it (λ (persons : Vec Person Global). map person_view persons.items) c.args.self.now.names.items c.deref.result.now c.args.variable (Some c.in-Some.persons.now) c.deref.ensures.value c.in-Some.ensures))

pub returns-in-None : goal.returns-in-None
returns-in-None c =
    ap (map (cow_view person_view)) c.new.ensures.items
    ∙ ap persons_or_none (viewed same.it (λ (persons : Vec Person Global). map person_view persons.items) c.args.self.now.names.items c.deref.result.now c.args.variable None c.deref.ensures.value c.in-None.ensures)
