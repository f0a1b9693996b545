use Rattle.std.proofs.Common.{◌≡◌, ◌<◌, length, true, false, arith, rules}
use Rattle.std.proofs.lemmas.Grind.{common_steps}
use Rattle.std.proofs.lemmas.List.{get_or_read}
use Rattle.csl_style.specs.Cycles.{is_marked, ArePlaceLevels}
use Rattle.csl_style.proofs.Falling.{leads-not-back}
use Rattle.csl_style.proofs.cycles.first_cyclic.Goals as goal

pub returns-then-index-clause-cyclic : goal.returns-then-index-clause-cyclic
returns-then-index-clause-cyclic c =
    let i = c.in-Some.first in
    let reach = c.in_ok-seen.ensures in
    let seen = c.in_ok-seen.seen.items in
    let levels : ArePlaceLevels c.args.graph.now c.args.levels.now = c.are_levels.ensures c.if-are_levels.true in
    let within : i < length c.args.graph.now = search rules in
    let read = get_or_read seen _ _ (omega (arith, reach.each)) c.index.ensures false in
    let marked : is_marked seen i ≡ true = grind (arith, common_steps) in
    record {
      within = within;
      returns = reach.sound i marked;
      earlier = λ k less. leads-not-back levels (c.in-Some.ensures.earlier k less);
    }
