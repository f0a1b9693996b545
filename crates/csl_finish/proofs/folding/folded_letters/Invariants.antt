use Rattle.std.proofs.Common.{◌≡◌, ◌++◌, drop}
use Rattle.std.specs.Prelude.{encode_utf8_all, string_bytes}
use Rattle.csl_finish.specs.Folding.{folded_chars}
use Rattle.csl_finish.proofs.folding.folded_letters.Given as goal

-- what the letters so far sort as, with that of the rest, is that of all
abbrev pub invariant-loop-index : goal.invariant-loop-index
invariant-loop-index l = string_bytes l.folded ++ encode_utf8_all (folded_chars (drop l.index l.letters)) ≡ encode_utf8_all (folded_chars l.letters)
