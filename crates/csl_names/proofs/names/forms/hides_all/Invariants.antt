use Rattle.std.proofs.Common.{◌≡◌, drop, map, length, nat_le}
use Rattle.std.specs.List.{list_all}
use Rattle.csl_names.specs.NamesLists.{list_of}
use Rattle.csl_names.proofs.names.forms.hides_all.Given as goal

-- the result for the remaining lists is that for all
abbrev pub invariant-loop-list : goal.invariant-loop-list
invariant-loop-list l = list_all (λ n. nat_le l.min (length n.0)) (map list_of (drop l.list-index l.lists)) ≡ list_all (λ n. nat_le l.min (length n.0)) (map list_of l.lists)
