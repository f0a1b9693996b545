use Rattle.std.proofs.Common.{rules, ◌≡◌, arith}
use Rattle.csl_finish.proofs.Order.{placed_step}
use Rattle.csl_finish.proofs.keys.placed.Goals as goal

pub loop-key-preserved : goal.loop-key-preserved
loop-key-preserved g c =
    placed_step c.loop-key.placed.items c.push.new.self.items c.loop-key.yielded c.in-Some.key c.len-place.result
    c.loop-key.invariant (grind (arith, c.loop-key.placed.ok.0, c.len-place.ensures)) (search rules)
