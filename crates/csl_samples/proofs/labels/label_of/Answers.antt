use Rattle.csl_samples.proofs.BuiltIns.{labelled}
use Rattle.csl_samples.proofs.labels.label_of.Goals as goal

pub returns : goal.returns
returns c entry is = labelled c.citation.result c.new.result.letters entry c.args.work.now c.new.ensures is c.citation.ensures.value
