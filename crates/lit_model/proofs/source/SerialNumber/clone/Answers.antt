use Rattle.lit_model.proofs.Shown.{pairs-AllZip}
use Rattle.lit_model.proofs.source.SerialNumber.clone.Goals as goal

pub returns : goal.returns
returns c = pairs-AllZip _ _ c.in_ok-numbers.ensures.cases
