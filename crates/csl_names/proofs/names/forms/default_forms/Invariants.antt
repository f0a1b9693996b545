use Rattle.std.proofs.Common.{◌≡◌, map, take}
use Rattle.csl_elements.specs.NamesOptions.{complete_options}
use Rattle.csl_names.specs.NamesForms.{default_forms}
use Rattle.csl_names.specs.NamesLists.{list_of}
use Rattle.csl_names.proofs.names.forms.default_forms.Given as goal

abbrev pub invariant-loop-list : goal.invariant-loop-list
invariant-loop-list l = map (λ f. f.items) l.forms.items ≡ default_forms (complete_options l.options) l.later (map list_of (take l.list-index l.lists))
