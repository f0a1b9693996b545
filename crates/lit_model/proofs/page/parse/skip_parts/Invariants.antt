use Rattle.std.proofs.Common.{◌≡◌, ◌-◌, chars}
use denote.Text.{Utf8}
use denote.Shadow.{shadow}
use Rattle.lit_model.specs.NumericParse.{rest_of}
use Rattle.lit_model.specs.PageParse.{parts_at}
use Rattle.lit_model.proofs.page.parse.skip_parts.Given as goal

abbrev pub invariant-loop : goal.invariant-loop
invariant-loop l = record {
  text : shadow (Utf8 l.rest);
  rest_same : rest_of (parts_at (l.separators - l.counter) (chars l.rest)) ≡ rest_of (parts_at l.separators (chars l.text));
}
