use Rattle.std.proofs.Common.{◌≡◌, map, drop}
use Rattle.csl_entry.specs.NameProperties.{shown_from}
use Rattle.csl_entry.proofs.forms.name_properties.NameDisambiguationProperties.shown_at.Given as goal

-- the search in the remaining lists for the remaining place has the result of the whole search
abbrev pub invariant-loop-list : goal.invariant-loop-list
invariant-loop-list l = shown_from l.list-counter l.place (map (λ v. v.items) (drop l.list-counter l.forms-items)) ≡ shown_from 0 l.idx (map (λ v. v.items) l.forms-items)
