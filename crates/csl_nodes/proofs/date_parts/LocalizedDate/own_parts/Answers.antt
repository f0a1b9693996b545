use Rattle.csl_nodes.specs.Date.{own_part, own_parts}
use Rattle.csl_nodes.proofs.JoinedParts.{each_named}
use Rattle.csl_nodes.proofs.date_parts.LocalizedDate.own_parts.Goals as goal

pub returns : goal.returns
returns c = each_named (record { day = c.own_part.result; month = c.own_part-2.result; year = c.own_part-3.result }) (own_part (own_parts c.args.self)) c.own_part.ensures c.own_part-2.ensures c.own_part-3.ensures
