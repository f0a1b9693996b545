use Rattle.std.proofs.Common.{◌≡◌, drop}
use Rattle.std.specs.List.{flat_map}
use Rattle.csl_tree.specs.Tokens.{child_tokens}
use Rattle.csl_finish.specs.CaseMarks.{have_mark}
use Rattle.csl_finish.proofs.unmarked.+marks.Given as goal

-- a child has a mark exactly if one from this one on has
abbrev pub invariant-has_mark-loop-child : goal.invariant-has_mark-loop-child
invariant-has_mark-loop-child l = have_mark (flat_map child_tokens (drop l.child-index l.child-items)) ≡ have_mark (flat_map child_tokens l.child-items)
