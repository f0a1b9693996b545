use Rattle.std.proofs.Common.{◌≡◌, drop, map}
use Rattle.csl_names.specs.NamesLists.{all_empty, list_of}
use Rattle.csl_names.proofs.names.lists.all_empty.Given as goal

-- the result for the remaining lists is that for all
abbrev pub invariant-loop-list : goal.invariant-loop-list
invariant-loop-list l = all_empty (map list_of (drop l.list-index l.lists)) ≡ all_empty (map list_of l.lists)
