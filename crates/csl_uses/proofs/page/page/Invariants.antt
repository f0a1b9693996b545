use Rattle.std.proofs.Common.{◌≡◌, ◌++◌, List, string_bytes, take}
use Rattle.std.specs.List.{flat_map}
use Rattle.csl.specs.Tree.Tokens.{Token}
use Rattle.csl_uses.specs.Page.{AreWebLines, entry_html}
use Rattle.csl_uses.proofs.page.page.Given as goal

-- the page so far has the lines of the entries so far
abbrev pub invariant-loop-place : goal.invariant-loop-place
invariant-loop-place g l =
    (lines : List (List Token)) × AreWebLines g.T.EntryLike.answers l.style (take l.place l.entries) lines × (string_bytes l.html ≡ string_bytes l.initial.html ++ flat_map entry_html lines)
