use Rattle.std.proofs.Common.{rules}
use Rattle.lit_model.proofs.PersonEqual.{person_decides}
use Rattle.lit_model.proofs.person.Person.is_same_person.Goals as goal

pub returns-clause-texts : goal.returns-clause-texts
returns-clause-texts c = let d = person_decides c.args.self.now c.args.other.now in search (rules, d)
