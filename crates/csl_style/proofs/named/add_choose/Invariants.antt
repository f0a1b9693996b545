use Rattle.std.proofs.Common.{◌≡◌, drop}
use Rattle.csl_elements.specs.NamedSet.{named_union, named_set}
use Rattle.csl_elements.specs.View.{view_choose}
use Rattle.csl_style.specs.Named.{each_of}
use Rattle.csl_style.specs.NamedWalk.{named_itself, named_in_tests_of}
use Rattle.csl_style.proofs.named.add_choose.Given as goal

-- the items named so far and those in the tests of the remaining branches are all the items
abbrev pub invariant-loop-branch : goal.invariant-loop-branch
invariant-loop-branch l = named_union (named_set l.named) (each_of named_in_tests_of (drop l.branch-index l.branch-items)) ≡ named_union (named_set l.fn.named) (named_itself (view_choose l.choose))
