use Rattle.std.proofs.Common.{◌∙◌}
use Rattle.lit_model.specs.Text.{chunks}
use Rattle.csl_nodes.proofs.SpelledNumbers.{is_number_by}
use Rattle.csl_nodes.proofs.condition.is_number.Goals as goal

pub returns : goal.returns
returns c = is_number_by (chunks c.args.text.now) c.as_str.result.now c.is_spelled_by.result (c.as_str.ensures.value ∙ c.in_ok-text.ensures) c.is_spelled_by.ensures
