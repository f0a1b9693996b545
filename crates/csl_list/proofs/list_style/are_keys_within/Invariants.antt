use Rattle.std.specs.List.{AllWithin}
use Rattle.csl_elements.specs.View.{view_layout}
use Rattle.csl_style.specs.AllWithin.{IsLayoutWithin}
use Rattle.csl_list.proofs.list_style.are_keys_within.Given as goal

abbrev pub invariant-loop-key : goal.invariant-loop-key
invariant-loop-key l = AllWithin (λ key. IsLayoutWithin l.style l.rendered l.size l.depth (view_layout key.layout)) l.keys 0 l.key-index
