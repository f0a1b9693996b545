use Rattle.std.proofs.Common.{◌≡◌, map, take, Some}
use Rattle.serde_json.specs.View.{view}
use Rattle.lit_model.specs.Text.{chunk_of}
use Rattle.csl_wire_cite.specs.Texts.{read_piece}
use Rattle.csl_wire_cite.proofs.texts.pieces.Given as goal

-- the pieces so far are those of the items so far
abbrev pub invariant-loop-place : goal.invariant-loop-place
invariant-loop-place l = map read_piece (map view (take l.place l.items)) ≡ map Some (map chunk_of l.pieces.items)
