use Rattle.std.proofs.Common.{map, take}
use Rattle.std.specs.List.{AllZip}
use Rattle.serde_json.specs.View.{view}
use Rattle.csl_wire.specs.Reading.{borrowed, pair_by}
use Rattle.csl_wire.specs.Leaves.{has_choice, IsWordOf}
use Rattle.csl_wire.proofs.form.all_chosen.Given as goal

-- the values so far are those of the words so far
abbrev pub invariant-loop-place : goal.invariant-loop-place
invariant-loop-place g l = AllZip (IsWordOf (has_choice (map (pair_by borrowed) l.names))) (map view (take l.place l.words)) l.values.items
