use Rattle.std.proofs.Common.{◌≡◌, map, take}
use Rattle.std.specs.List.{AllZip}
use Rattle.serde_json.specs.View.{view}
use Rattle.csl_wire_list.specs.Items.{name_in, IsItem}
use Rattle.csl_wire_list.specs.Works.{names_of, with_names}
use Rattle.csl_wire_list.proofs.items.items.Given as goal

-- the cites so far are those of the values so far, and so are the names
abbrev pub invariant-loop-place : goal.invariant-loop-place
invariant-loop-place l = record {
  read : AllZip (IsItem (names_of l.works.works.items)) (map view (take l.place l.values)) l.items.items;
  names : names_of l.works.works.items ≡ with_names (names_of l.initial.works.works.items) (map name_in (map view (take l.place l.values)));
}
