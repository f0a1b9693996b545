use Rattle.std.proofs.Common.{◌∙◌, not, ap, arith}
use Rattle.csl_tree.specs.Tokens.{has_children}
use Rattle.csl_tree.specs.Flat.{OpenParts}
use Rattle.csl_tree.proofs.Flats.{empty_is}
use Rattle.csl_tree.proofs.flat.FlatTree.is_empty.Goals as goal

pub returns : goal.returns
returns c =
    empty_is c.self.inside.children.items c.self.inside.start c.self.inside.around.items c.len.result (omega (arith, c.len.ensures, c.self.inside.children.ok.0)) c.self.invariant.0
    ∙ ap (λ (p : OpenParts). not (has_children p.inner)) c.self.view_is
