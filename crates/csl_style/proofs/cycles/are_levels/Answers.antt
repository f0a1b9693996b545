use Rattle.std.proofs.Common.{◌≡◌, ◌<◌, length, sym, ◌∙◌, subst, arith, Contains}
use Rattle.std.proofs.lemmas.Grind.{common_steps}
use Rattle.csl_style.specs.Cycles.{row_at}
use Rattle.csl_style.proofs.Edges.{row-read}
use Rattle.csl_style.proofs.Falling.{stays-along, stays-more, all-stay}
use Rattle.csl_style.proofs.cycles.are_levels.Goals as goal

pub loop-at-preserved : goal.loop-at-preserved
loop-at-preserved c =
    let graph = c.args.graph.now in
    let levels = c.args.levels.now in
    let at = c.loop-at.at in
    let row = c.deref-to-items.result.now in
    let there : at < length graph = omega arith in
    let same : row_at graph at ≡ row = row-read graph at c.index-graph-at.result there c.index-graph-at.is ∙ sym c.deref-to-items.ensures.value in
    stays-more graph levels at c.loop-at.invariant (record {
      small = grind (arith, common_steps);
      stay = λ b edge. stays-along levels row at (λ k less. c.loop-to.invariant k (omega arith)) b (subst (λ tos. Contains tos b) same edge);
    })

pub returns : goal.returns
returns c _ = all-stay c.args.graph.now c.args.levels.now (omega arith) (λ k less. c.loop-at.invariant k (omega arith))
