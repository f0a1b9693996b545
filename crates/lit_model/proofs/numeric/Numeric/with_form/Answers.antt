use Rattle.std.proofs.Common.{rules}
use Rattle.csl_common.proofs.Writes.{passed_on}
use Rattle.lit_model.proofs.numeric.Numeric.with_form.Goals as goal

pub returns : goal.returns
returns g c = passed_on _ (λ s. s.inner) _ _ _ _ _ _ _ c.new-sink.ensures.lent c.into_inner.ensures (λ same. search rules) c.with_form_into-result.ensures.ok
