use Rattle.std.proofs.Common.{◌≡◌, drop}
use Rattle.csl_elements.specs.NamedSet.{named_union, named_set}
use Rattle.csl_elements.specs.View.{view_names}
use Rattle.csl_style.specs.Named.{each_of, the_name}
use Rattle.csl_style.specs.NamedWalk.{named_itself}
use Rattle.csl_style.proofs.named.add_names.Given as goal

abbrev pub invariant-loop-v : goal.invariant-loop-v
invariant-loop-v l = named_union (named_set l.named) (each_of the_name (drop l.v-index l.v-items)) ≡ named_union (named_set l.fn.named) (named_itself (view_names l.names))
