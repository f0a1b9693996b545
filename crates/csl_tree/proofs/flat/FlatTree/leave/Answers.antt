use Rattle.std.proofs.Common.{◌∙◌, ap}
use Rattle.csl_tree.specs.Flat.{OpenParts, close_part}
use Rattle.csl_tree.proofs.Flats.{left}
use Rattle.csl_tree.proofs.flat.FlatTree.leave.Goals as goal

pub returns : goal.returns
returns c =
    left c.self.inside.children.items c.self.inside.start c.in-Some.start c.pop.new.self.items c.self.inside.around.items c.in-Some.ensures.items c.self.invariant
    ∙ ap (λ (p : OpenParts). close_part p.inner p) c.self.view_is
