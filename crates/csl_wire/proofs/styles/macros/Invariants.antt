use Rattle.std.proofs.Common.{map, take}
use Rattle.std.specs.List.{AllZip}
use Rattle.serde_json.specs.View.{view}
use Rattle.csl_elements.specs.View.{definition}
use Rattle.csl_wire.specs.Styles.{IsMacro}
use Rattle.csl_wire.proofs.styles.macros.Given as goal

-- the macros so far are those of the items so far
abbrev pub invariant-loop-place : goal.invariant-loop-place
invariant-loop-place l = AllZip (IsMacro l.reader.marks) (map view (take l.place l.items)) (map definition l.macros.items)
