use Rattle.std.proofs.Common.{◌-◌, ◌∙◌, sym, ap, arith}
use Rattle.csl_tree.specs.Tokens.{last_char}
use Rattle.csl_tree.proofs.FlatTexts.{content_leaf}
use Rattle.csl_tree.proofs.LastChars.{at_text, past_none, before_all}
use Rattle.csl_tree.proofs.flat.last_char.Goals as goal

pub returns-then-is_some : goal.returns-then-is_some
returns-then-is_some c =
    let i = c.loop-i.i in
    sym (ap last_char (content_leaf c.args.children.now) ∙ c.loop-i.invariant.ends
    ∙ at_text c.args.children.now i (i - 1) c.index-children-i.result c.last_char-last.result (omega (arith, c.loop-i-test.true)) (omega (arith, c.loop-i-test.true, c.loop-i.invariant.within)) c.index-children-i.is c.last_char-last.ensures (sym c.is_some.ensures ∙ c.if-is_some.true))

pub loop-i-preserved : goal.loop-i-preserved
loop-i-preserved c =
    let i = c.loop-i.i in
    record {
      within = omega (arith, c.loop-i.invariant.within);
      ends = c.loop-i.invariant.ends ∙ past_none c.args.children.now i (i - 1) c.index-children-i.result c.last_char-last.result (omega (arith, c.loop-i-test.true)) (omega (arith, c.loop-i-test.true, c.loop-i.invariant.within)) c.index-children-i.is c.last_char-last.ensures (sym c.is_some.ensures ∙ c.if-is_some.false);
    }

pub returns : goal.returns
returns c = sym (ap last_char (content_leaf c.args.children.now) ∙ c.loop-i.invariant.ends ∙ before_all c.args.children.now c.loop-i.i c.loop-i-test.false)
