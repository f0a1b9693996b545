use Rattle.std.proofs.Common.{map, take}
use Rattle.std.specs.List.{AllZip}
use Rattle.serde_json.specs.View.{view}
use Rattle.csl_wire_list.specs.Keys.{IsKey}
use Rattle.csl_wire_list.proofs.keys.all_keys.Given as goal

-- the keys so far are those of the items so far
abbrev pub invariant-loop-place : goal.invariant-loop-place
invariant-loop-place l = AllZip IsKey (map view (take l.place l.items)) l.keys.items
