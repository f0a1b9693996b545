use Rattle.std.proofs.Common.{ap, ◌∙◌}
use Rattle.csl_nodes.specs.Usage.{info_of, usage_flags, info_union}
use Rattle.csl_render.specs.Flags.{info_of_flags}
use Rattle.csl_render.proofs.FlagBits.{or_flag}
use Rattle.csl_render.proofs.flags.InfoFlags.with_child.Goals as goal

pub returns : goal.returns
unfolding info_union
returns c =
    let a = c.args.self.bits in
    let b = c.as_child.result.bits in
    (λ i. info_of (or_flag a b 0 i) (usage_flags (or_flag a b 1 i) (or_flag a b 2 i) (or_flag a b 3 i) (or_flag a b 4 i)))
    ∙ ap (info_union (info_of_flags c.args.self)) c.as_child.ensures
