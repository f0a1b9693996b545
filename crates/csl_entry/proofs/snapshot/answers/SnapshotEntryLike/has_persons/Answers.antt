use Rattle.std.proofs.Common.{◌≡◌, ◌∙◌, ap, sym, map, Some, None, Vec, Global, length}
use Rattle.std.specs.Prelude.{◌==◌, not}
use Rattle.std.proofs.lemmas.List.{length-map}
use Rattle.lit_model.specs.Person.{person_view}
use Rattle.lit_model.specs.declared.person.Person.{Person}
use Rattle.csl_elements.specs.contracts.taxonomy.NameVariablePartialEq.TheImpl.{eq-value as same}
use Rattle.csl_entry.specs.Snapshot.{persons_or_none}
use Rattle.csl_entry.proofs.Kept.{viewed}
use Rattle.csl_entry.proofs.snapshot.answers.SnapshotEntryLike.has_persons.Goals as goal

pub returns-in-Some : goal.returns-in-Some
returns-in-Some c =
    ap not (c.is_empty.ensures ∙ ap (λ l. length l == 0) c.as_slice.ensures.value ∙ sym (ap (λ n. n == 0) (length-map c.in-Some.persons.now.items person_view)))
    ∙ ap (λ o. not (length (persons_or_none o) == 0)) (viewed same.it (λ (persons : Vec Person Global). map person_view persons.items) c.args.self.now.names.items c.deref.result.now c.args.variable (Some c.in-Some.persons.now) c.deref.ensures.value c.in-Some.ensures)

pub returns-in-None : goal.returns-in-None
returns-in-None c =
    ap (λ o. not (length (persons_or_none o) == 0)) (viewed same.it (λ (persons : Vec Person Global). map person_view persons.items) c.args.self.now.names.items c.deref.result.now c.args.variable None c.deref.ensures.value c.in-None.ensures)
