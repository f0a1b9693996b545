use Rattle.std.proofs.Common.{◌∙◌}
use Rattle.csl_context.proofs.Affixes.{dropped_is}
use Rattle.csl_context.proofs.writing.drop_part.Goals as goal

pub returns : goal.returns
returns c = c.discard.ensures ∙ dropped_is c.args.parts.now c.args.parts.now.outer
