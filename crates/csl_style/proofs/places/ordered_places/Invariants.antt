use Rattle.std.proofs.Common.{◌≡◌, ℕ, List, drop}
use Rattle.std.specs.BTreeMap.{get_by_text}
use Rattle.csl_elements.specs.View.{definitions}
use Rattle.csl_style.specs.Expansion.{macro_index}
use Rattle.csl_style.proofs.PlacesByName.{found}
use Rattle.csl_style.proofs.places.ordered_places.Given as goal

abbrev pub invariant-loop-i : goal.invariant-loop-i
invariant-loop-i l = (q : List ℕ) → found (get_by_text l.places) l.i (drop l.i l.macros) q ≡ macro_index q (definitions l.macros)
