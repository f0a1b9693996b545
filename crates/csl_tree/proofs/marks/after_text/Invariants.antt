use Rattle.std.proofs.Common.{◌≡◌, ◌++◌, List, ℕ, length}
use denote.Text.{Utf8}
use denote.Shadow.{shadow}
use Rattle.csl_tree.specs.Escapes.{escape_all}
use Rattle.csl_tree.proofs.marks.after_text.Given as goal

-- a text in HTML, then the rest
abbrev pub invariant-loop-next : goal.invariant-loop-next
invariant-loop-next l = shadow (Utf8 l.rest) × ((bs : List ℕ) × (l.html ≡ escape_all bs ++ l.rest))

abbrev pub decreases-loop-next : goal.decreases-loop-next
decreases-loop-next l = length l.rest
