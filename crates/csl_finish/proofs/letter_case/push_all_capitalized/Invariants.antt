use Rattle.std.proofs.Common.{length}
use Rattle.csl_finish.proofs.letter_case.push_all_capitalized.Given as goal

-- each word leaves fewer letters
abbrev pub decreases-loop-word : goal.decreases-loop-word
decreases-loop-word l = length l.rest
