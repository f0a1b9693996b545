use Rattle.std.proofs.Common.{◌≡◌, map, take}
use Rattle.serde_json.specs.View.{view}
use Rattle.csl_tree.specs.Tokens.{names_of}
use Rattle.csl_wire_reply.specs.Tree.{names_data}
use Rattle.csl_wire_reply.proofs.meta.names_value.Given as goal

abbrev pub invariant-loop-name : goal.invariant-loop-name
invariant-loop-name l = map view l.items.items ≡ map names_data (map names_of (take l.name-index l.names))
