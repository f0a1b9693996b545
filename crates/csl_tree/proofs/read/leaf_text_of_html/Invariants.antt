use Rattle.std.proofs.Common.{length}
use Rattle.std.specs.Prelude.{string_bytes, reverse}
use denote.Text.{Utf8}
use denote.Shadow.{shadow}
use Rattle.csl_tree.specs.Read.{IsReadTo}
use Rattle.csl_tree.proofs.read.leaf_text_of_html.Given as goal

abbrev pub invariant-loop-mark : goal.invariant-loop-mark
invariant-loop-mark l = shadow (Utf8 l.rest) × IsReadTo l.html l.rest (reverse l.reading.within.items) (string_bytes l.reading.leaves)

abbrev pub decreases-loop-mark : goal.decreases-loop-mark
decreases-loop-mark l = length l.rest
