use Rattle.std.proofs.Common.{◌≡◌, map, take}
use Rattle.serde_json.specs.View.{view}
use Rattle.csl_wire_list.specs.Documents.{word_in}
use Rattle.csl_wire_list.specs.Works.{names_of, with_names}
use Rattle.csl_wire_list.proofs.document.add_works.Given as goal

-- the names so far are those of the values so far
abbrev pub invariant-loop-place : goal.invariant-loop-place
invariant-loop-place l = names_of l.works.works.items ≡ with_names (names_of l.initial.works.works.items) (map word_in (map view (take l.place l.values)))
