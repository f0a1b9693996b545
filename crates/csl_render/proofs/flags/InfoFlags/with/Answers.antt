use Rattle.std.proofs.Common.{◌==◌, ◌&&◌, ◌||◌, sym, ap, ◌∙◌}
use Rattle.csl_render.specs.Flags.{has_flag}
use Rattle.csl_render.proofs.FlagBits.{with_flag, and_false}
use Rattle.csl_render.proofs.flags.InfoFlags.with.Goals as goal

pub returns-then-set : goal.returns-then-set
returns-then-set c i = with_flag c.args.self.bits c.args.place i c.requires ∙ ap (λ b. (i == c.args.place && b) || has_flag c.args.self.bits i) (sym c.if-set.true)

pub returns-else-set : goal.returns-else-set
returns-else-set c i = ap (λ b. b || has_flag c.args.self.bits i) (sym (and_false (i == c.args.place)) ∙ ap (λ b. i == c.args.place && b) (sym c.if-set.false))
