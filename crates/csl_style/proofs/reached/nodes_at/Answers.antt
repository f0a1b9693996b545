use Rattle.std.proofs.Common.{sym, ap, ◌∙◌}
use Rattle.csl_elements.specs.View.{view_nodes}
use Rattle.csl_style.proofs.Called.{children-read}
use Rattle.csl_style.proofs.reached.nodes_at.Goals as goal

pub returns : goal.returns
returns c =
    let ms = c.args.macros.now in
    ap (λ m. view_nodes m.children.items) (sym c.index-macros-i.is) ∙ sym (children-read ms c.args.i c.index-macros-i.result c.requires c.index-macros-i.is)
