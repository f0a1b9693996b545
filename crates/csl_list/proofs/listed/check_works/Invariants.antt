use Rattle.std.specs.List.{AllWithin}
use Rattle.csl_list.specs.Listed.{AreWorksThere}
use Rattle.csl_list.proofs.listed.check_works.Given as goal

abbrev pub invariant-loop-citation : goal.invariant-loop-citation
invariant-loop-citation l = AllWithin (AreWorksThere l.works) l.requests 0 l.citation
