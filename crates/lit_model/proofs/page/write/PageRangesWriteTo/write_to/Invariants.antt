use Rattle.std.proofs.Common.{◌≡◌, take}
use Rattle.std.specs.Fmt.{WritesInCalls}
use Rattle.lit_model.specs.Page.{parts_view}
use Rattle.lit_model.specs.PageWrite.{pages_text}
use Rattle.lit_model.proofs.page.write.PageRangesWriteTo.write_to.Given as goal

-- so far the sink took the parts before this one, and no refusal is new
abbrev pub invariant-loop-part : goal.invariant-loop-part
invariant-loop-part g l = record {
  taken : WritesInCalls g.S.Write.write_str_gives l.fn.sink (pages_text (parts_view (take l.part-index l.part-items))) l.sink;
  kept : g.S.Sink.refused l.sink ≡ g.S.Sink.refused l.fn.sink;
}
