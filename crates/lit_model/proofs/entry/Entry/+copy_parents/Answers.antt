use Rattle.std.proofs.Common.{◌≡◌, ap, ◌∙◌, map, take, arith}
use Rattle.std.proofs.lemmas.Grind.{common_steps}
use Rattle.lit_model.specs.Work.{works}
use Rattle.lit_model.proofs.entry.Entry.+copy_parents.Goals as goal

pub returns : goal.returns
returns t c =
    let whole : take c.loop-parent.parent-index c.deref-parent-items.result.now ≡ c.deref-parent-items.result.now = grind (arith, common_steps) in
    c.loop-parent.invariant ∙ ap (map works) (whole ∙ c.deref-parent-items.ensures.value)
