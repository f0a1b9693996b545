use Rattle.std.proofs.Common.{◌&&◌, sym, ap, ◌∙◌}
use Rattle.csl_nodes.specs.Usage.{info_of, usage_flags, should_render_group}
use Rattle.csl_render.specs.Flags.{info_of_flags}
use Rattle.csl_render.proofs.FlagBits.{and_true, and_false}
use Rattle.csl_render.proofs.flags.InfoFlags.of_group.Goals as goal

pub returns-then-should_render_group : goal.returns-then-should_render_group
returns-then-should_render_group c =
    let was = info_of_flags c.args.self in
    let rule = sym c.if-should_render_group.true ∙ c.should_render_group.ensures ∙ ap should_render_group c.usage.ensures in
    ap (λ b. info_of b was.flags) (sym (and_true was.prints) ∙ ap (λ b. was.prints && b) rule)

pub returns-else-should_render_group : goal.returns-else-should_render_group
returns-else-should_render_group c =
    let was = info_of_flags c.args.self in
    let rule = sym c.if-should_render_group.false ∙ c.should_render_group.ensures ∙ ap should_render_group c.usage.ensures in
    let none = c.only.ensures 0 ∙ sym (and_false was.prints) ∙ ap (λ b. was.prints && b) rule in
    λ i. info_of (none i) (usage_flags (c.only.ensures 1 i) (c.only.ensures 2 i) (c.only.ensures 3 i) (c.only.ensures 4 i))
