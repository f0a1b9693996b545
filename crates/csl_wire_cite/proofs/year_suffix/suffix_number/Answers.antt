use Rattle.std.proofs.Common.{rules, ◌≡◌, ℕ, ◌+◌, ◌*◌, ◌-◌, ◌<◌, ◌≤◌, length, get_or, take, arith}
use Rattle.csl_wire_cite.proofs.Words.{letters_read, value_read}
use Rattle.csl_wire_cite.proofs.year_suffix.suffix_number.Goals as goal

pub loop-letter-preserved : goal.loop-letter-preserved
loop-letter-preserved c =
    let w = c.as_bytes-letter-items.result.now in
    let i = c.loop-letter.letter-index in
    let read = c.in_ok-count.ensures in
    record {
      letters = letters_read w i _ c.loop-letter-test.true (search rules) read.0 read.1 c.loop-letter.invariant.letters;
      value = value_read w i _ _ _ c.loop-letter-test.true (search rules) read.2 c.loop-letter.invariant.value;
      small = search rules;
    }
