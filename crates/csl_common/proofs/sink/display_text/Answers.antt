use Rattle.std.proofs.Common.{rules}
use Rattle.csl_common.proofs.Writes.{displayed, plain_written}
use Rattle.csl_common.proofs.sink.display_text.Goals as goal

pub returns-clause-styled : goal.returns-clause-styled
returns-clause-styled g c = displayed _ (λ s. s.inner) _ _ _ _ _ _ _ c.new-sink.ensures.lent c.into_inner.ensures (λ same. search rules) c.write_to-displayed.ensures.ok

pub returns-clause-plain : goal.returns-clause-plain
returns-clause-plain g c plain ok =
    plain_written _ _ _ _ (displayed _ (λ s. s.inner) _ _ _ _ _ _ _ c.new-sink.ensures.lent c.into_inner.ensures (λ same. search rules) c.write_to-displayed.ensures.ok plain.flush ok) plain
