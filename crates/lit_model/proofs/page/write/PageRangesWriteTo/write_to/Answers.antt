use Rattle.std.proofs.Common.{arith}
use Rattle.std.proofs.lemmas.Grind.{common_steps}
use Rattle.csl_common.proofs.Writes.{two_writes}
use Rattle.lit_model.proofs.PageTexts.{pages_text-more}
use Rattle.lit_model.proofs.page.write.PageRangesWriteTo.write_to.Goals as goal

pub loop-part-preserved : goal.loop-part-preserved
loop-part-preserved g c = record {
  taken = two_writes _ _ _ _ _ _ _ c.loop-part.invariant.taken c.in_ok-write_to.ensures.ok
      (pages_text-more c.deref-part-items.result.now c.loop-part.part-index c.part-item.result c.loop-part-test.true c.part-item.is);
  kept = grind (arith, common_steps);
}
