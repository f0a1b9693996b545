use Rattle.std.proofs.Common.{ap, ◌∙◌, map}
use Rattle.lit_model.specs.Work.{works}
use Rattle.lit_model.proofs.Works.{works_same}
use Rattle.lit_model.proofs.entry.Entry.clone.Goals as goal

pub returns : goal.returns
returns c = works_same c.in_ok-copy.copy c.args.self.now c.in_ok-copy.ensures.own (ap (map works) c.in_ok-copy.ensures.parents ∙ c.in_ok-parents.ensures)
