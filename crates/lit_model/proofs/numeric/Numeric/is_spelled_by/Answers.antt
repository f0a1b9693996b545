use Rattle.std.proofs.Common.{chars}
use Rattle.lit_model.proofs.SpelledTexts.{spelled_if}
use Rattle.lit_model.proofs.numeric.Numeric.is_spelled_by.Goals as goal

pub returns : goal.returns
returns c = spelled_if (chars c.args.text.now) c.shape_of.result c.is_some.result c.is_some.ensures c.shape_of.ensures
