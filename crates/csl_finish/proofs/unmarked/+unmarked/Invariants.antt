use Rattle.std.proofs.Common.{◌≡◌, false, take}
use Rattle.std.specs.List.{flat_map}
use Rattle.csl_tree.specs.Tokens.{child_tokens}
use Rattle.csl_finish.specs.CaseMarks.{have_mark, solids, unmarked_solids}
use Rattle.csl_finish.proofs.unmarked.+unmarked.Given as goal

-- the copies so far have no mark, and of the children before this one all that is no text
abbrev pub invariant-with_unmarked_texts-loop-child : goal.invariant-with_unmarked_texts-loop-child
invariant-with_unmarked_texts-loop-child l =
    (have_mark (flat_map child_tokens l.copies.items) ≡ false)
    × (solids (flat_map child_tokens l.copies.items) ≡ unmarked_solids (flat_map child_tokens (take l.child-index l.child-items)))
