use Rattle.std.specs.List.{AllWithin}
use Rattle.csl_elements.specs.View.{definitions}
use Rattle.csl_list.specs.ListStyle.{IsKnown}
use Rattle.csl_list.proofs.list_style.unknown_key.Given as goal

-- the keys so far are known
abbrev pub invariant-loop-i : goal.invariant-loop-i
invariant-loop-i l = AllWithin (IsKnown (definitions l.style.macros)) l.keys 0 l.i
