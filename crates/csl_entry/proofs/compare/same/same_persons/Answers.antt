use Rattle.std.proofs.Common.{sym, ◌∙◌}
use Rattle.csl_entry.proofs.Persons.{persons_decide, persons_same}
use Rattle.csl_entry.proofs.compare.same.same_persons.Goals as goal

pub returns-clause-texts : goal.returns-clause-texts
returns-clause-texts c =
    let d = persons_decide c.args.persons.now c.args.others.now in
    let s = persons_same c.args.persons.now c.args.others.now in
    (λ t. d.0 (s ∙ sym c.same_each.ensures ∙ t), λ h. c.same_each.ensures ∙ sym s ∙ d.1 h)
