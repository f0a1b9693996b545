use Rattle.std.proofs.Common.{◌≡◌, take}
use Rattle.lit_model.specs.Page.{parts_view}
use Rattle.lit_model.proofs.page.PageRanges.clone.Given as goal

-- the copy so far shows the parts before this one
abbrev pub invariant-loop-part : goal.invariant-loop-part
invariant-loop-part l = parts_view l.ranges.items ≡ parts_view (take l.part-index l.part-items)
