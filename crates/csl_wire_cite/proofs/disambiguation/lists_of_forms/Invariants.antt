use Rattle.std.proofs.Common.{◌≡◌, map, take, Some}
use Rattle.serde_json.specs.View.{view}
use Rattle.csl_wire_cite.specs.Disambiguations.{read_name_forms}
use Rattle.csl_wire_cite.proofs.disambiguation.lists_of_forms.Given as goal

-- the lists so far are those of the items so far
abbrev pub invariant-loop-place : goal.invariant-loop-place
invariant-loop-place l = map read_name_forms (map view (take l.place l.items)) ≡ map Some (map (λ fs. fs.items) l.lists.items)
