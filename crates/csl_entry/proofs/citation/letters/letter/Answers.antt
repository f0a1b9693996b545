use Rattle.std.proofs.Common.{string_bytes}
use Rattle.csl_entry.proofs.Words.{at_place, one_place, order_at}
use Rattle.csl_entry.proofs.citation.letters.letter.Goals as goal

pub returns-clause-letters : goal.returns-clause-letters
returns-clause-letters c = at_place (string_bytes c.in_ok-word.word) c.args.n c.in_ok-word.ensures.word c.in_ok-word.ensures.place

pub returns-clause-order : goal.returns-clause-order
returns-clause-order c = λ w h. order_at w (string_bytes c.in_ok-word.word) c.args.n h c.in_ok-word.ensures.word c.in_ok-word.ensures.place

pub returns-clause-only : goal.returns-clause-only
returns-clause-only c = λ w h e. one_place w (string_bytes c.in_ok-word.word) c.args.n h c.in_ok-word.ensures.word e c.in_ok-word.ensures.place
