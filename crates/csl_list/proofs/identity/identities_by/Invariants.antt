use Rattle.std.specs.Prelude.{◌≡◌, length}
use Rattle.csl_list.proofs.identity.identities_by.Given as goal

abbrev pub invariant-loop-place : goal.invariant-loop-place
invariant-loop-place l = length l.identities.items ≡ l.works
