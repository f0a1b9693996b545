use Rattle.csl_nodes.specs.Usage.{info_of, usage_flags}
use Rattle.csl_render.proofs.flags.InfoFlags.without_group_flag.Goals as goal

pub returns : goal.returns
returns c = λ i. info_of (c.only.ensures 0 i) (usage_flags (c.only.ensures 1 i) (c.only.ensures 2 i) (c.only.ensures 3 i) (c.only.ensures 4 i))
