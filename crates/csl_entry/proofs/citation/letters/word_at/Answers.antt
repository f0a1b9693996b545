use Rattle.std.proofs.Common.{◌+◌, ◌%◌, ◌≡◌, ◌∷◌, rules, arith, string_bytes}
use Rattle.csl_entry.proofs.Words.{value_front}
use Rattle.csl_entry.proofs.citation.letters.word_at.Goals as goal

pub loop-word-preserved : goal.loop-word-preserved
loop-word-preserved c =
    let longer : string_bytes c.insert.new.self ≡ (97 + c.loop-word.rest % 26) ∷ string_bytes c.loop-word.word = search rules in
    rw longer (record {
      letters = (omega arith, omega arith, c.loop-word.invariant.letters);
      value = value_front c.loop-word.rest c.args.n (string_bytes c.loop-word.word) (omega arith) c.loop-word.invariant.value;
    })
