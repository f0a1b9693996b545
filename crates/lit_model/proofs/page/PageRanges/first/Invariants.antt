use Rattle.std.proofs.Common.{◌≡◌, drop}
use Rattle.lit_model.specs.Page.{parts_view, first_page}
use Rattle.lit_model.proofs.page.PageRanges.first.Given as goal

-- the first page of the remaining parts is the first page of all
abbrev pub invariant-loop-part : goal.invariant-loop-part
invariant-loop-part l = first_page (parts_view (drop l.part-index l.part-items)) ≡ first_page (parts_view l.part-items)
