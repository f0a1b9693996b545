use Rattle.csl_entry.proofs.AlikeSets.{alike_decides}
use Rattle.csl_entry.proofs.compare.alike.same_answers.Goals as goal

pub returns : goal.returns
returns g c =
    alike_decides c.args.named.now (g.T.EntryLike.answers c.args.a.now) (g.U.EntryLike.answers c.args.b.now) _ _ _ _ _ _ _ c.all.ensures
    c.in_ok-numbers.ensures c.in_ok-pages.ensures c.in_ok-standards.ensures c.in_ok-names.ensures c.in_ok-dates.ensures c.in_ok-kinds.ensures
