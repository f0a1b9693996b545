use Rattle.std.proofs.Common.{◌≡◌, ◌-◌, chars}
use denote.Text.{Utf8}
use denote.Shadow.{shadow}
use Rattle.lit_model.specs.NumericParse.{rest_of, integers_at}
use Rattle.lit_model.proofs.numeric.parse.skip_integers.Given as goal

abbrev pub invariant-loop : goal.invariant-loop
invariant-loop l = record {
  text : shadow (Utf8 l.rest);
  rest_same : rest_of (integers_at (l.delimiters - l.counter) (chars l.rest)) ≡ rest_of (integers_at l.delimiters (chars l.text));
}
