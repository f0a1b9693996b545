use Rattle.std.proofs.Common.{◌+◌, ◌*◌, ◌^◌, ◌≡◌, length, string_bytes}
use Rattle.csl_entry.specs.Letters.{AreLetters, word_value}
use Rattle.csl_entry.proofs.citation.letters.word_at.Given as goal

abbrev pub invariant-loop-word : goal.invariant-loop-word
invariant-loop-word l = record {
  letters : AreLetters (string_bytes l.word);
  value : (l.rest + 1) * 26 ^ length (string_bytes l.word) + word_value (string_bytes l.word) ≡ l.fn.n + 1;
}

abbrev pub decreases-loop-word : goal.decreases-loop-word
decreases-loop-word l = l.rest
