use Rattle.std.proofs.Common.{◌||◌, ap, ◌∙◌}
use Rattle.csl_nodes.specs.Usage.{info_of, usage_flags}
use Rattle.csl_render.proofs.Eithers.{or_false}
use Rattle.csl_render.proofs.flags.InfoFlags.as_child.Goals as goal

pub returns : goal.returns
returns c =
    let group = c.with.ensures 4 ∙ ap (λ b. c.is_printing_group.result || b) (c.only.ensures 4) ∙ or_false c.is_printing_group.result ∙ c.is_printing_group.ensures in
    λ i. info_of ((c.with.ensures 0 ∙ c.only.ensures 0) i) (usage_flags ((c.with.ensures 1 ∙ c.only.ensures 1) i) ((c.with.ensures 2 ∙ c.only.ensures 2) i) ((c.with.ensures 3 ∙ c.only.ensures 3) i) (group i))
