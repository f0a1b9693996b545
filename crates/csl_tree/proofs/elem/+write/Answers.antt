use Rattle.std.proofs.Common.{arith}
use Rattle.std.proofs.lemmas.Grind.{common_steps}
use Rattle.csl_common.proofs.Writes.{two_writes, three_writes, writes_of_eq}
use Rattle.csl_tree.proofs.Written.{written-elem, written-children}
use Rattle.csl_tree.proofs.elem.+write.Goals as goal

pub ElemChildren::write_into-loop-child-preserved : goal.ElemChildren::write_into-loop-child-preserved
ElemChildren::write_into-loop-child-preserved g t c = record {
  taken = two_writes _ _ _ _ _ _ _ c.loop-child.invariant.taken c.in_ok-write_into.ensures.ok (grind (arith, common_steps));
  kept = grind (arith, common_steps);
}

pub ElemChildren::write_into-returns-clause-ok : goal.ElemChildren::write_into-returns-clause-ok
ElemChildren::write_into-returns-clause-ok g t c =
    writes_of_eq _ _ _ _ _ (grind (arith, common_steps, written-children c.args.format c.args.self.now)) c.loop-child.invariant.taken

pub Elem::write_into-returns-clause-ok : goal.Elem::write_into-returns-clause-ok
Elem::write_into-returns-clause-ok g t c =
    three_writes _ _ _ _ _ _ _ _ _ c.in_ok-put.ensures.ok c.in_ok-write_into.ensures.ok c.in_ok-put-2.ensures.ok (rw (c.start_of.ensures, c.end_of.ensures) (written-elem _ _))
