use Rattle.std.proofs.Common.{sym, arith}
use Rattle.std.proofs.lemmas.Grind.{common_steps}
use Rattle.std.specs.Prelude.{map}
use Rattle.lit_model.specs.Person.{person_view}
use Rattle.csl_entry.specs.Answers.{cow_view}
use Rattle.csl_entry.proofs.Persons.{persons_apart}
use Rattle.csl_entry.proofs.compare.same.same_each.Goals as goal

pub returns-then-persons-others : goal.returns-then-persons-others
returns-then-persons-others c = sym (persons_apart (map (cow_view person_view) c.args.persons.now) (map (cow_view person_view) c.args.others.now) (grind (arith, common_steps)))
