use Rattle.std.proofs.Common.{◌∙◌}
use Rattle.csl_entry.proofs.Persons.{one_of_same}
use Rattle.csl_entry.proofs.entry.name.is_one_of.Goals as goal

pub returns : goal.returns
returns c = c.contains.ensures.value ∙ one_of_same c.args.persons.now c.args.person.now
