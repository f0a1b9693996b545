use Rattle.std.proofs.Common.{rules}
use Rattle.csl_common.proofs.Writes.{passed_on}
use Rattle.lit_model.proofs.person.Person.first_name_with_delimiter.Goals as goal

pub returns : goal.returns
returns g c = passed_on _ (λ s. s.inner) _ _ _ _ _ _ _ c.new-sink.ensures.lent c.into_inner.ensures (λ same. search rules) c.first_name_with_delimiter_into-result.ensures.ok
