use Rattle.std.proofs.Common.{◌≡◌, drop}
use Rattle.csl_elements.specs.NamedSet.{named_union, named_set}
use Rattle.csl_style.specs.Named.{each_of, the_variable}
use Rattle.csl_style.proofs.named.add_variables.Given as goal

abbrev pub invariant-loop-v : goal.invariant-loop-v
invariant-loop-v l = named_union (named_set l.named) (each_of the_variable (drop l.v-index l.v-items)) ≡ named_union (named_set l.fn.named) (each_of the_variable l.v-items)
