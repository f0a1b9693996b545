use Rattle.std.proofs.Common.{◌≡◌, ◌-◌, chars}
use denote.Text.{Utf8}
use denote.Shadow.{shadow}
use Rattle.lit_model.specs.NumericParse.{read_of, integers_at}
use Rattle.lit_model.proofs.Loops.{with_front}
use Rattle.lit_model.proofs.numeric.parse.integers.Given as goal

abbrev pub invariant-loop : goal.invariant-loop
invariant-loop l = record {
  text : shadow (Utf8 l.rest);
  so_far : with_front l.numbers.items (integers_at (l.delimiters - l.counter) (chars l.rest)) ≡ read_of (integers_at l.delimiters (chars l.text));
}
