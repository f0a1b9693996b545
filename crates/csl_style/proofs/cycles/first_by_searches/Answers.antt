use Rattle.std.proofs.Common.{◌≡◌, ◌<◌, length, true, false, arith}
use Rattle.std.proofs.lemmas.Grind.{common_steps}
use Rattle.std.proofs.lemmas.List.{get_or_read}
use Rattle.csl_style.specs.Cycles.{is_marked}
use Rattle.csl_style.proofs.Ranking.{reaches-not, ranks-from}
use Rattle.csl_style.proofs.cycles.first_by_searches.Goals as goal

pub returns-then-index-clause-cyclic : goal.returns-then-index-clause-cyclic
returns-then-index-clause-cyclic c =
    let i = c.loop-i.i in
    let reach = c.in_ok-seen.ensures in
    let seen = c.in_ok-seen.seen.items in
    let within : i < length c.args.graph.now = omega arith in
    let read = get_or_read seen _ _ (omega (arith, reach.each)) c.index.ensures false in
    let marked : is_marked seen i ≡ true = grind (arith, common_steps) in
    record {
      within = within;
      returns = reach.sound i marked;
      earlier = λ k less. reaches-not (c.loop-i.invariant k less);
    }

pub returns-clause-ranks : goal.returns-clause-ranks
returns-clause-ranks c _ = ranks-from c.args.graph.now c.requires (λ k less. c.loop-i.invariant k (omega arith))
