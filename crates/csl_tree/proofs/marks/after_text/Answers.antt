use Rattle.std.proofs.Common.{rules, ◌++◌}
use Rattle.csl_tree.proofs.Escaped.{text_shortens, texts_join}
use Rattle.csl_tree.proofs.marks.after_text.Goals as goal

pub loop-next-smaller : goal.loop-next-smaller
loop-next-smaller c = text_shortens _ _ _ c.in-Some.ensures.found.0 c.in-Some.ensures.found.1

pub loop-next-preserved : goal.loop-next-preserved
loop-next-preserved c =
    let inv = c.loop-next.invariant.1 in
    (search rules, (inv.0 ++ c.in-Some.field-0-0.now, texts_join c.args.html.now inv.0 c.loop-next.rest.now c.in-Some.field-0-0.now c.in-Some.next.now inv.1 c.in-Some.ensures.found.1))
