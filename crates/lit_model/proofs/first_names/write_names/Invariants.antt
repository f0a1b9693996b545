use Rattle.std.proofs.Common.{◌≡◌, ℕ, List, [], ◌++◌}
use denote.Text.{Utf8}
use denote.Shadow.{shadow}
use Rattle.std.specs.Prelude.{IsUtf8}
use Rattle.std.specs.Fmt.{WritesInCalls}
use Rattle.std.specs.Str.Iter.{split_whitespace_rest}
use Rattle.lit_model.specs.Marked.{names_text}
use Rattle.lit_model.specs.Initials.{given_words}
use Rattle.lit_model.proofs.first_names.write_names.Given as goal

-- the bytes that the sink took so far and the text of the remaining words are the whole text
abbrev pub invariant-loop-word : goal.invariant-loop-word
invariant-loop-word g l =
    shadow (Utf8 l.gap)
    × IsUtf8 (split_whitespace_rest l.word-iterator)
    × ((so_far : List ℕ) × WritesInCalls g.S.Write.write_str_gives l.fn.sink so_far l.sink × (so_far ++ names_text l.text l.gap (given_words (split_whitespace_rest l.word-iterator)) ≡ names_text l.text [] (given_words l.given)))
    × (g.S.Sink.refused l.sink ≡ g.S.Sink.refused l.fn.sink)
