use Rattle.std.proofs.Common.{◌≡◌, ◌≤◌, take}
use Rattle.csl_entry.specs.Letters.{AreLetters, word_value}
use Rattle.csl_wire_cite.proofs.year_suffix.suffix_number.Given as goal

-- the bytes so far are letters, and their value is the count
abbrev pub invariant-loop-letter : goal.invariant-loop-letter
invariant-loop-letter l = record {
  letters : AreLetters (take l.letter-index l.letter-items);
  value : word_value (take l.letter-index l.letter-items) ≡ l.count;
  small : l.count ≤ 65536;
}
