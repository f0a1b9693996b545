use Rattle.std.proofs.Common.{◌≡◌, drop}
use Rattle.csl_entry.specs.Snapshot.{answer_at}
use Rattle.csl_entry.proofs.snapshot.answers.answer_at.Given as goal

-- no pair so far has the variable
abbrev pub invariant-loop-answered : goal.invariant-loop-answered
invariant-loop-answered g l = answer_at g.K.PartialEq.eq (drop l.answered-index l.kept) l.variable ≡ answer_at g.K.PartialEq.eq l.kept l.variable
