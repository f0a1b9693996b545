use Rattle.std.proofs.Common.{◌-◌, ◌∙◌, List, sym, ap, arith}
use Rattle.csl_tree.specs.Tokens.{Token, leaf_text, last_char}
use Rattle.csl_tree.proofs.Trees.{tokens_out}
use Rattle.csl_tree.proofs.Appended.{transparent_child}
use Rattle.csl_tree.proofs.LastChars.{at_text, past_none, before_all, last_char-none}
use Rattle.csl_tree.proofs.elem.+ends.Goals as goal

pub ElemChild::last_char-returns-in-Transparent : goal.ElemChild::last_char-returns-in-Transparent
ElemChild::last_char-returns-in-Transparent t c = rw (c.in-Transparent.is, transparent_child) (sym last_char-none)

pub ElemChildren::last_char-returns-then-is_some : goal.ElemChildren::last_char-returns-then-is_some
ElemChildren::last_char-returns-then-is_some t c =
    let i = c.loop-i.i in
    sym (ap (λ (l : List Token). last_char (leaf_text l)) (tokens_out c.args.self.now) ∙ c.loop-i.invariant.ends
    ∙ at_text c.args.self.now.0.items i (i - 1) c.index.result.now c.last_char-last.result (omega (arith, c.loop-i-test.true)) (omega (arith, c.loop-i-test.true, c.loop-i.invariant.within)) c.index.ensures c.last_char-last.ensures (sym c.is_some.ensures ∙ c.if-is_some.true))

pub ElemChildren::last_char-loop-i-preserved : goal.ElemChildren::last_char-loop-i-preserved
ElemChildren::last_char-loop-i-preserved t c =
    let i = c.loop-i.i in
    record {
      within = omega (arith, c.loop-i.invariant.within);
      ends = c.loop-i.invariant.ends
          ∙ past_none c.args.self.now.0.items i (i - 1) c.index.result.now c.last_char-last.result (omega (arith, c.loop-i-test.true)) (omega (arith, c.loop-i-test.true, c.loop-i.invariant.within)) c.index.ensures c.last_char-last.ensures (sym c.is_some.ensures ∙ c.if-is_some.false);
    }

pub ElemChildren::last_char-returns : goal.ElemChildren::last_char-returns
ElemChildren::last_char-returns t c =
    sym (ap (λ (l : List Token). last_char (leaf_text l)) (tokens_out c.args.self.now) ∙ c.loop-i.invariant.ends ∙ before_all c.args.self.now.0.items c.loop-i.i c.loop-i-test.false)
