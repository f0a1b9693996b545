use Rattle.csl_common.proofs.Writes.{one_write, on_ok_both}
use Rattle.csl_common.proofs.sink.TrackingWriterSink.put.Goals as goal

pub returns-clause-ok : goal.returns-clause-ok
returns-clause-ok g c = one_write _ _ _ _ _ (on_ok_both _ _ c.pass.ensures.same c.pass.ensures.ok)
