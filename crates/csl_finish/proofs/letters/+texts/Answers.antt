use Rattle.std.proofs.Common.{arith, ◌∙◌, sym, ap}
use Rattle.std.proofs.lemmas.Grind.{common_steps}
use Rattle.csl_tree.proofs.Trees.{tokens_out}
use Rattle.csl_tree.specs.Tokens.{optional_meta, tokens}
use Rattle.csl_finish.specs.Letters.{bares}
use Rattle.csl_finish.proofs.Elements.{bares_around, made, opened}
use Rattle.csl_finish.proofs.letters.+texts.Goals as goal

pub with_texts-returns : goal.with_texts-returns
with_texts-returns t c = rw (tokens_out c.args.content.now, tokens_out (record { 0 = c.loop-child.copies })) (grind (arith, common_steps))

pub child_with_texts-returns-in_ok-meta-in-Elem : goal.child_with_texts-returns-in_ok-meta-in-Elem
child_with_texts-returns-in_ok-meta-in-Elem t c =
    rw c.in-Elem.is (
    ap bares (made (record { children = c.in_ok-children-in-Elem.children; display = c.in-Elem.elem.display; meta = c.in_ok-meta-in-Elem.meta }))
    ∙ bares_around c.in-Elem.elem.display (optional_meta c.in_ok-meta-in-Elem.meta) (optional_meta c.in-Elem.elem.meta) (tokens c.in_ok-children-in-Elem.children) (tokens c.in-Elem.elem.children) c.in_ok-meta-in-Elem.ensures c.in_ok-children-in-Elem.ensures
    ∙ sym (ap bares (opened c.in-Elem.elem)))
