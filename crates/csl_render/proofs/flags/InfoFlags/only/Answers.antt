use Rattle.csl_render.proofs.FlagBits.{and_flag}
use Rattle.csl_render.proofs.flags.InfoFlags.only.Goals as goal

pub returns : goal.returns
returns c i = and_flag c.args.self.bits c.args.bits i
