use Rattle.std.proofs.Common.{sym, ◌∙◌, arith}
use Rattle.csl_tree.proofs.NamesPlace.{next_is}
use Rattle.csl_tree.proofs.elem.ElemChildren.next_to_names.Goals as goal

pub returns-else-is_names-clause-value : goal.returns-else-is_names-clause-value
returns-else-is_names-clause-value c =
    let s = c.args.self.now in
    next_is s c.index.result.now c.in-Some.i (omega (arith, s.0.ok.0, c.in-Some.ensures.index)) c.index.ensures c.in-Some.ensures.found (sym c.is_names.ensures ∙ c.if-is_names.false) c.in-Some.ensures.some
