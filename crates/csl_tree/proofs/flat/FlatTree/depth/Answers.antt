use Rattle.std.proofs.Common.{length, ap, arith}
use Rattle.csl_tree.specs.Flat.{OpenParts}
use Rattle.csl_tree.proofs.Flats.{outer-length}
use Rattle.csl_tree.proofs.flat.FlatTree.depth.Goals as goal

pub returns : goal.returns
returns c =
    let count = outer-length c.self.inside.children.items c.self.inside.start c.self.inside.around.items in
    omega (arith, count, ap (λ (p : OpenParts). length p.outer) c.self.view_is, c.len.ensures, c.self.inside.around.ok.0)
