use Rattle.std.proofs.Common.{◌≡◌, ◌<◌, length, sym, ◌∙◌, subst, arith, Contains}
use Rattle.csl_style.specs.Cycles.{row_at}
use Rattle.csl_style.proofs.Edges.{row-read}
use Rattle.csl_style.proofs.Falling.{along-all, falls-more, all-fall}
use Rattle.csl_style.proofs.cycles.first_in_level.Goals as goal

pub loop-at-preserved : goal.loop-at-preserved
loop-at-preserved c =
    let graph = c.args.graph.now in
    let levels = c.args.levels.now in
    let at = c.loop-at.at in
    let row = c.deref-to-items.result.now in
    let there : at < length graph = omega arith in
    let same : row_at graph at ≡ row = row-read graph at c.index-graph-at.result there c.index-graph-at.is ∙ sym c.deref-to-items.ensures.value in
    falls-more graph levels at c.loop-at.invariant (record {
      small = c.requires.levels.small at there;
      fall = λ b edge. along-all levels row at (λ k less. c.loop-to.invariant k (omega arith)) b (subst (λ tos. Contains tos b) same edge);
    })

pub returns-clause-ranks : goal.returns-clause-ranks
returns-clause-ranks c _ = all-fall c.args.graph.now c.args.levels.now c.requires.levels.each (λ k less. c.loop-at.invariant k (omega arith))
