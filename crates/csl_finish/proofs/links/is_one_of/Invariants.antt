use Rattle.std.specs.Prelude.{◌≢◌}
use Rattle.std.specs.List.{AllWithin}
use Rattle.csl_finish.proofs.links.is_one_of.Given as goal

-- the text is none of those so far
abbrev pub invariant-loop-it : goal.invariant-loop-it
invariant-loop-it l = AllWithin (λ t. t.now ≢ l.text) l.texts 0 l.it-index
