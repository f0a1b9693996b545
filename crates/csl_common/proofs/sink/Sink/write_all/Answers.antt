use Rattle.std.proofs.Common.{arith}
use Rattle.std.proofs.lemmas.Grind.{common_steps}
use Rattle.csl_common.proofs.Writes.{two_writes}
use Rattle.csl_common.proofs.sink.Sink.write_all.Goals as goal

pub loop-text-preserved : goal.loop-text-preserved
loop-text-preserved g c = record {
  taken = two_writes _ _ _ _ _ _ _ c.loop-text.invariant.taken c.in_ok-put.ensures.ok (grind (arith, common_steps));
  kept = grind (arith, common_steps);
}
