use Rattle.std.proofs.Common.{◌≡◌, ◌≤◌, ◌+◌, ◌*◌, map, drop, count_by, is_some}
use Rattle.std.specs.List.{sum_by}
use Rattle.csl_entry.proofs.forms.name_properties.NameDisambiguationProperties.shown_count.Given as goal

-- the count so far and the shown names of the remaining lists are the total
abbrev pub invariant-loop-forms : goal.invariant-loop-forms
invariant-loop-forms l = record {
  counted : l.count + sum_by (count_by is_some) (map (λ v. v.items) (drop l.forms-index l.forms-items)) ≡ sum_by (count_by is_some) (map (λ v. v.items) l.forms-items);
  fits : l.count ≤ l.forms-index * 18446744073709551615;
}
