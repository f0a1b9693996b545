use Rattle.std.proofs.Common.{◌∙◌, ap}
use Rattle.csl_tree.specs.Flat.{with_tokens}
use Rattle.csl_tree.proofs.Flats.{parts_pushed}
use Rattle.csl_tree.proofs.flat.FlatTree.push_child.Goals as goal

pub returns-clause-ok : goal.returns-clause-ok
returns-clause-ok c = parts_pushed c.self.inside.children.items c.push.new.self.items c.self.inside.start c.self.inside.around.items _ c.in_ok-push.ensures.items c.self.invariant.0 ∙ ap (with_tokens _) c.self.view_is
