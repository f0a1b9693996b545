use Rattle.std.proofs.Common.{◌≡◌, ℕ, List, ◌++◌, map}
use Rattle.std.specs.Prelude.{IsUtf8}
use Rattle.std.specs.Fmt.{WritesInCalls}
use Rattle.std.specs.Str.Iter.{split_whitespace_rest}
use Rattle.lit_model.specs.Initials.{given_words, initials_of}
use Rattle.lit_model.specs.declared.initials.Before.TheVariants.{Nothing}
use Rattle.lit_model.specs.Shortened.{words_text}
use Rattle.lit_model.proofs.initials.Shortened.write_words.Given as goal

-- the bytes that the sink took so far and the initials of the remaining words are the whole text
abbrev pub invariant-loop-word : goal.invariant-loop-word
invariant-loop-word g l =
    IsUtf8 (split_whitespace_rest l.word-iterator)
    × ((so_far : List ℕ) × WritesInCalls g.S.Write.write_str_gives l.fn.sink so_far l.sink × (so_far ++ words_text l.self.text.now l.self.hyphen l.place (map initials_of (given_words (split_whitespace_rest l.word-iterator))) ≡ words_text l.self.text.now l.self.hyphen Nothing (map initials_of (given_words l.given))))
    × (g.S.Sink.refused l.sink ≡ g.S.Sink.refused l.fn.sink)
