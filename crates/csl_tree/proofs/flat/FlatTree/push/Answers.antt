use Rattle.csl_tree.proofs.Flats.{with_none}
use Rattle.csl_tree.proofs.flat.FlatTree.push.Goals as goal

pub returns-then-shows_nothing-clause-ok : goal.returns-then-shows_nothing-clause-ok
returns-then-shows_nothing-clause-ok c = with_none _ _ (rw c.if-shows_nothing.true at c.shows_nothing.ensures.nothing)
