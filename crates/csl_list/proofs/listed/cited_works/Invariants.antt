use Rattle.std.specs.Prelude.{◌≡◌, ◌++◌, drop}
use Rattle.csl_list.specs.Listed.{cited_works}
use Rattle.csl_list.proofs.listed.cited_works.Given as goal

-- the works so far, with those of the citations that are left, are all
abbrev pub invariant-loop-request : goal.invariant-loop-request
invariant-loop-request l = l.cited.items ++ cited_works (drop l.request-index l.requests) ≡ cited_works l.requests
