use Rattle.std.specs.Prelude.{◌≡◌, ◌++◌, take}
use Rattle.csl_list.specs.Listed.{works_of}
use Rattle.csl_list.proofs.listed.push_works.Given as goal

abbrev pub invariant-loop-item : goal.invariant-loop-item
invariant-loop-item l = l.cited.items ≡ l.initial.cited.items ++ works_of (take l.item-index l.items)
