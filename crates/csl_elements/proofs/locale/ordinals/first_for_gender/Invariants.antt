use Rattle.std.proofs.Common.{◌≡◌, map, drop}
use Rattle.csl_elements.specs.Locale.{ordinal_view}
use Rattle.csl_elements.specs.Ordinals.{is_in_group, for_gender}
use Rattle.csl_elements.proofs.locale.ordinals.first_for_gender.Given as goal

abbrev pub invariant-loop-ordinal : goal.invariant-loop-ordinal
invariant-loop-ordinal l =
    for_gender (is_in_group l.group) (map ordinal_view (drop l.ordinal-index l.ordinals)) l.gender
    ≡ for_gender (is_in_group l.group) (map ordinal_view l.ordinals) l.gender
