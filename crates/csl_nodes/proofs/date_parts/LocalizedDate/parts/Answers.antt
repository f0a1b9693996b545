use Rattle.std.proofs.Common.{map, ap}
use Rattle.csl_elements.specs.View.{view_date_part}
use Rattle.csl_nodes.proofs.JoinedParts.{not_localized}
use Rattle.csl_nodes.proofs.date_parts.LocalizedDate.parts.Goals as goal

pub returns-in-None : goal.returns-in-None
returns-in-None c =
    let d = c.args.self in
    not_localized d.node.now d.localized (map view_date_part c.deref.result.now) (map view_date_part d.node.now.date_part.items) c.in-None.is (ap (map view_date_part) c.deref.ensures.value)
