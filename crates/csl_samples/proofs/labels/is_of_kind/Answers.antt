use Rattle.std.proofs.Common.{◌∙◌}
use Rattle.csl_samples.proofs.BuiltIns.{kind_built_in}
use Rattle.csl_samples.proofs.labels.is_of_kind.Goals as goal

pub returns : goal.returns
returns c entry is = c.matches_entry_type.ensures ∙ kind_built_in entry c.args.kind c.args.work.now is
