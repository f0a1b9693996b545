use Rattle.std.proofs.Common.{◌≡◌, map, take}
use Rattle.std.specs.List.{AllZip, flat_map}
use Rattle.serde_json.specs.View.{view}
use Rattle.csl_wire_list.specs.Citations.{names_in, IsCitation}
use Rattle.csl_wire_list.specs.Works.{names_of, with_names}
use Rattle.csl_wire_list.proofs.citations.citations.Given as goal

-- the citations so far are those of the values so far, and so are the names
abbrev pub invariant-loop-place : goal.invariant-loop-place
invariant-loop-place l = record {
  read : AllZip (IsCitation (names_of l.works.works.items)) (map view (take l.place l.values)) l.citations.items;
  names : names_of l.works.works.items ≡ with_names (names_of l.initial.works.works.items) (flat_map names_in (map view (take l.place l.values)));
}
