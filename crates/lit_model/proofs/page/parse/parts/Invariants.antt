use Rattle.std.proofs.Common.{◌≡◌, ◌-◌, chars}
use denote.Text.{Utf8}
use denote.Shadow.{shadow}
use Rattle.lit_model.specs.NumericParse.{read_of}
use Rattle.lit_model.specs.Page.{parts_view}
use Rattle.lit_model.specs.PageParse.{parts_at}
use Rattle.lit_model.proofs.PageLoops.{with_front}
use Rattle.lit_model.proofs.page.parse.parts.Given as goal

abbrev pub invariant-loop : goal.invariant-loop
invariant-loop l = record {
  text : shadow (Utf8 l.rest);
  so_far : with_front (parts_view l.parts.items) (parts_at (l.separators - l.counter) (chars l.rest)) ≡ read_of (parts_at l.separators (chars l.text));
}
