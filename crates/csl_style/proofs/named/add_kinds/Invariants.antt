use Rattle.std.proofs.Common.{◌≡◌, drop}
use Rattle.csl_elements.specs.NamedSet.{named_union, named_set}
use Rattle.csl_style.specs.Named.{each_of, the_kind}
use Rattle.csl_style.proofs.named.add_kinds.Given as goal

abbrev pub invariant-loop-kind : goal.invariant-loop-kind
invariant-loop-kind l = named_union (named_set l.named) (each_of the_kind (drop l.kind-index l.kind-items)) ≡ named_union (named_set l.fn.named) (each_of the_kind l.kind-items)
