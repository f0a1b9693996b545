use Rattle.std.proofs.Common.{ap, ◌==◌}
use Rattle.std.proofs.lemmas.Nat.Bits.{bit_at-zero}
use Rattle.csl_render.proofs.flags.InfoFlags.none.Goals as goal

pub returns-clause-none : goal.returns-clause-none
returns-clause-none c i = ap (λ x. x == 1) (bit_at-zero i)
