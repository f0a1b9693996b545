use Rattle.std.proofs.Common.{◌≡◌, ◌++◌, drop, map, string_bytes}
use Rattle.std.specs.List.{flat_map}
use Rattle.lit_model.specs.Page.{part_view}
use Rattle.csl_nodes.specs.Pages.{part_text}
use Rattle.csl_nodes.proofs.pages.pages_in_format.Given as goal

-- the text so far, with that of the remaining parts, is the text of all
abbrev pub invariant-loop-part : goal.invariant-loop-part
invariant-loop-part l = string_bytes l.text ++ flat_map (part_text l.kept l.delimiter) (map part_view (drop l.part-index l.part-items)) ≡ flat_map (part_text l.kept l.delimiter) (map part_view l.part-items)
