use Rattle.csl_style.proofs.NamedNodes.{adds_both, tests_out}
use Rattle.csl_style.proofs.named.add_tests.Goals as goal

pub returns : goal.returns
returns c = rw (tests_out c.args.branch.now) (adds_both _ _ _ _ _ c.in_ok-add_variables.ensures (adds_both _ _ _ _ _ c.in_ok-add_dates.ensures (adds_both _ _ _ _ _ c.in_ok-add_kinds.ensures c.in_ok-add_variables-2.ensures)))
