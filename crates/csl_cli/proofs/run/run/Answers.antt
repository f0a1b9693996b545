use Rattle.std.proofs.Common.{rules}
use Rattle.csl_common.proofs.Writes.{passed_back, kept_back}
use Rattle.csl_cli.proofs.Taken.{some_passed_back}
use Rattle.csl_cli.proofs.run.run.Goals as goal

pub returns-clause-zero : goal.returns-clause-zero
returns-clause-zero g c zero =
    let h = c.run_into-status.ensures.zero zero in
    (h.0, h.1, passed_back _ (λ s. s.inner) _ _ _ _ _ _ c.new-out_sink.ensures.lent c.into_inner.ensures (λ same. search rules) h.2)

pub returns-clause-zero_fault : goal.returns-clause-zero_fault
returns-clause-zero_fault g c zero =
    kept_back (λ s. s.inner) _ _ _ _ _ c.new-fault_sink.ensures.lent c.into_inner-2.ensures (λ same. search rules) (c.run_into-status.ensures.zero_fault zero)

pub returns-clause-two : goal.returns-clause-two
returns-clause-two g c two =
    some_passed_back _ (λ s. s.inner) _ _ _ _ _ _ c.new-fault_sink.ensures.lent c.into_inner-2.ensures (λ same. search rules) (c.run_into-status.ensures.two two)

pub returns-clause-two_out : goal.returns-clause-two_out
returns-clause-two_out g c two =
    kept_back (λ s. s.inner) _ _ _ _ _ c.new-out_sink.ensures.lent c.into_inner.ensures (λ same. search rules) (c.run_into-status.ensures.two_out two)

pub returns-clause-three : goal.returns-clause-three
returns-clause-three g c three =
    passed_back _ (λ s. s.inner) _ _ _ _ _ _ c.new-fault_sink.ensures.lent c.into_inner-2.ensures (λ same. search rules) (c.run_into-status.ensures.three three)

pub returns-clause-three_out : goal.returns-clause-three_out
returns-clause-three_out g c three =
    kept_back (λ s. s.inner) _ _ _ _ _ c.new-out_sink.ensures.lent c.into_inner.ensures (λ same. search rules) (c.run_into-status.ensures.three_out three)

pub returns-clause-five : goal.returns-clause-five
returns-clause-five g c five =
    let h = c.run_into-status.ensures.five five in
    (h.0, passed_back _ (λ s. s.inner) _ _ _ _ _ _ c.new-fault_sink.ensures.lent c.into_inner-2.ensures (λ same. search rules) h.1)

pub returns-clause-five_out : goal.returns-clause-five_out
returns-clause-five_out g c five =
    kept_back (λ s. s.inner) _ _ _ _ _ c.new-out_sink.ensures.lent c.into_inner.ensures (λ same. search rules) (c.run_into-status.ensures.five_out five)

pub returns-clause-four_out : goal.returns-clause-four_out
returns-clause-four_out g c four none =
    kept_back (λ s. s.inner) _ _ _ _ _ c.new-out_sink.ensures.lent c.into_inner.ensures (λ same. search rules) (c.run_into-status.ensures.four_out four none)
