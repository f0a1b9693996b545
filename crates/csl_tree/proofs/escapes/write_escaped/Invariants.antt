use Rattle.std.proofs.Common.{◌≡◌, ◌++◌, List, ℕ, false, length}
use denote.Text.{Utf8}
use denote.Shadow.{shadow}
use Rattle.std.specs.Fmt.{WritesInCalls}
use Rattle.csl_tree.specs.Escapes.{escape_all, starts_plain}
use Rattle.csl_tree.proofs.escapes.write_escaped.Given as goal

-- the sink took the escaped front; no plain byte follows
abbrev pub invariant-loop-reference : goal.invariant-loop-reference
invariant-loop-reference g l = record {
  text : shadow (Utf8 l.rest);
  stops : starts_plain l.rest ≡ false;
  taken : (front : List ℕ) × (l.text ≡ front ++ l.rest) × WritesInCalls g.S.Write.write_str_gives l.fn.sink (escape_all front) l.sink;
  kept : g.S.Sink.refused l.sink ≡ g.S.Sink.refused l.fn.sink;
}

abbrev pub decreases-loop-reference : goal.decreases-loop-reference
decreases-loop-reference g l = length l.rest
