use Rattle.std.proofs.Common.{◌≡◌, ℕ, List, ◌++◌, length}
use denote.Text.{Utf8}
use denote.Shadow.{shadow}
use Rattle.std.specs.Fmt.{WritesInCalls}
use Rattle.lit_model.specs.Initials.{initials_of}
use Rattle.lit_model.specs.Shortened.{word_text, before_piece}
use Rattle.lit_model.proofs.initials.Shortened.write_word.Given as goal

-- The bytes that the sink took so far and the initials of the rest are the text of the whole word.
-- The position fits, and no refusal is new.
abbrev pub invariant-loop-piece : goal.invariant-loop-piece
invariant-loop-piece g l =
    shadow (Utf8 l.rest)
    × ((so_far : List ℕ) × WritesInCalls g.S.Write.write_str_gives l.fn.sink so_far l.sink × (so_far ++ word_text l.self.text.now l.self.hyphen l.place (initials_of l.rest) ≡ word_text l.self.text.now l.self.hyphen l.fn.before (initials_of l.word)))
    × (before_piece l.place (initials_of l.rest) ≡ before_piece l.fn.before (initials_of l.word))
    × (g.S.Sink.refused l.sink ≡ g.S.Sink.refused l.fn.sink)

abbrev pub decreases-loop-piece : goal.decreases-loop-piece
decreases-loop-piece g l = length l.rest
