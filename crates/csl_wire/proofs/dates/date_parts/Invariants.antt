use Rattle.std.proofs.Common.{◌≡◌, map, take, Some}
use Rattle.serde_json.specs.View.{view}
use Rattle.csl_elements.specs.View.{view_date_part}
use Rattle.csl_wire.specs.Parts.{read_date_part}
use Rattle.csl_wire.proofs.dates.date_parts.Given as goal

-- the parts so far are those of the items so far
abbrev pub invariant-loop-place : goal.invariant-loop-place
invariant-loop-place l = map (read_date_part l.reader.marks) (map view (take l.place l.items)) ≡ map Some (map view_date_part l.parts.items)
