use Rattle.std.proofs.Common.{◌≡◌, map, drop}
use Rattle.csl_elements.specs.Locale.{ordinals_of}
use Rattle.csl_elements.specs.Ordinals.{first_ordinals}
use Rattle.csl_elements.proofs.locale.ordinals.first_ordinals.Given as goal

abbrev pub invariant-loop-locale : goal.invariant-loop-locale
invariant-loop-locale l = first_ordinals (map ordinals_of (drop l.locale-index l.locales)) ≡ first_ordinals (map ordinals_of l.locales)
