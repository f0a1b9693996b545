use Rattle.std.proofs.Common.{arith, ◌∙◌, sym, ap}
use Rattle.std.proofs.lemmas.Grind.{common_steps}
use Rattle.csl_tree.proofs.Trees.{tokens_out}
use Rattle.csl_tree.specs.Tokens.{optional_meta, tokens}
use Rattle.csl_finish.specs.CaseMarks.{have_mark, solids, unmarked_solids}
use Rattle.csl_finish.proofs.Elements.{made, no_mark_around, opened, solids_around}
use Rattle.csl_finish.proofs.unmarked.+unmarked.Goals as goal

pub with_unmarked_texts-returns : goal.with_unmarked_texts-returns
with_unmarked_texts-returns t c = rw (tokens_out c.args.content.now, tokens_out (record { 0 = c.loop-child.copies })) (grind (arith, common_steps))

pub unmarked_child-returns-in_ok-meta-in-Elem-clause-unmarked : goal.unmarked_child-returns-in_ok-meta-in-Elem-clause-unmarked
unmarked_child-returns-in_ok-meta-in-Elem-clause-unmarked t c =
    ap have_mark (made (record { children = c.in_ok-children-in-Elem.children; display = c.in-Elem.elem.display; meta = c.in_ok-meta-in-Elem.meta }))
    ∙ no_mark_around c.in-Elem.elem.display (optional_meta c.in_ok-meta-in-Elem.meta) (tokens c.in_ok-children-in-Elem.children) c.in_ok-children-in-Elem.ensures.unmarked

pub unmarked_child-returns-in_ok-meta-in-Elem-clause-solids : goal.unmarked_child-returns-in_ok-meta-in-Elem-clause-solids
unmarked_child-returns-in_ok-meta-in-Elem-clause-solids t c =
    rw c.in-Elem.is (
    ap solids (made (record { children = c.in_ok-children-in-Elem.children; display = c.in-Elem.elem.display; meta = c.in_ok-meta-in-Elem.meta }))
    ∙ solids_around c.in-Elem.elem.display (optional_meta c.in_ok-meta-in-Elem.meta) (optional_meta c.in-Elem.elem.meta) (tokens c.in_ok-children-in-Elem.children) (tokens c.in-Elem.elem.children) c.in_ok-meta-in-Elem.ensures c.in_ok-children-in-Elem.ensures.solids
    ∙ sym (ap unmarked_solids (opened c.in-Elem.elem)))
