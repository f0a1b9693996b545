use Rattle.std.proofs.Common.{◌≡◌, map, take, Some}
use Rattle.serde_json.specs.View.{view}
use Rattle.csl_wire_cite.specs.Disambiguations.{read_name_form}
use Rattle.csl_wire_cite.proofs.disambiguation.name_forms.Given as goal

-- the forms so far are those of the items so far
abbrev pub invariant-loop-place : goal.invariant-loop-place
invariant-loop-place l = map read_name_form (map view (take l.place l.items)) ≡ map Some l.forms.items
