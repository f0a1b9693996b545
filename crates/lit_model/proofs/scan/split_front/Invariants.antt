use Rattle.std.proofs.Common.{◌≡◌, ◌≤◌, ◌++◌, length, take, chars, encode_utf8_all, ◌-◌}
use denote.Text.{Utf8}
use denote.Shadow.{shadow}
use Rattle.lit_model.specs.NumericParse.{longest_prefix, after_longest_prefix}
use Rattle.lit_model.specs.Scan.{passes}
use Rattle.lit_model.proofs.scan.split_front.Given as goal

-- The bytes before the rest are the front so far. The longest front goes on in the rest, and the
-- characters after it are unchanged.
abbrev pub invariant-loop-c : goal.invariant-loop-c
invariant-loop-c l = record {
  text : shadow (Utf8 l.rest);
  shorter : length l.rest ≤ length l.text;
  whole : l.text ≡ take (length l.text - length l.rest) l.text ++ l.rest;
  front_so_far : encode_utf8_all (longest_prefix (passes l.class) (chars l.text)) ≡ take (length l.text - length l.rest) l.text ++ encode_utf8_all (longest_prefix (passes l.class) (chars l.rest));
  rest_same : after_longest_prefix (passes l.class) (chars l.text) ≡ after_longest_prefix (passes l.class) (chars l.rest);
}

abbrev pub decreases-loop-c : goal.decreases-loop-c
decreases-loop-c l = length l.rest
