use Rattle.std.proofs.Common.{◌≡◌, map, take}
use Rattle.csl_entry.proofs.forms.name_properties.NameDisambiguationProperties.clone.Given as goal

abbrev pub invariant-loop-forms : goal.invariant-loop-forms
invariant-loop-forms l = map (λ v. v.items) l.name_forms.items ≡ map (λ v. v.items) (take l.forms-index l.forms-items)
