use Rattle.std.proofs.Common.{◌≡◌, ◌+◌, map, drop}
use Rattle.csl_elements.specs.NamesOptions.{complete_options}
use Rattle.csl_names.specs.NamesForms.{count_of, saturated_count}
use Rattle.csl_names.specs.NamesLists.{list_of}
use Rattle.csl_names.proofs.names.forms.count_of.Given as goal

-- the count so far is within the limit; with that of the remaining lists, it is the count of all
abbrev pub invariant-loop-list : goal.invariant-loop-list
invariant-loop-list l = record {
  kept : saturated_count l.count ≡ l.count;
  left : saturated_count (l.count + count_of (complete_options l.options) l.later (map list_of (drop l.list-index l.lists))) ≡ saturated_count (count_of (complete_options l.options) l.later (map list_of l.lists));
}
