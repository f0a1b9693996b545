use Rattle.std.specs.Prelude.{◌≡◌, [], drop}
use Rattle.csl_tree.specs.Tokens.{tokens}
use Rattle.csl_list.specs.Citation.{cites_after}
use Rattle.csl_list.proofs.citation.cites_in_a_row.Given as goal

-- what is printed so far, with the cites that are left after it, is the row
abbrev pub invariant-loop-place : goal.invariant-loop-place
invariant-loop-place g l =
    (l.renderer.style ≡ l.fn.renderer.style)
    × (cites_after g.T.EntryLike.answers l.fn.renderer.style l.options l.formatting l.links l.place (tokens l.content) (drop l.place l.cites)
    ≡ cites_after g.T.EntryLike.answers l.fn.renderer.style l.options l.formatting l.links 0 [] l.cites)
