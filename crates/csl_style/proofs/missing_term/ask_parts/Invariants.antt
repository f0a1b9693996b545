use Rattle.std.proofs.Common.{drop, map}
use Rattle.csl_style.specs.declared.missing_term.Found.{Found}
use Rattle.csl_style.specs.FoundTerms.{Finds}
use Rattle.csl_elements.specs.View.{view_date_part}
use Rattle.csl_style.specs.MissingTerm.{asked_in_parts}
use Rattle.csl_style.proofs.missing_term.ask_parts.Given as goal

-- after the remaining items is found what is found after all
abbrev pub invariant-loop-part : goal.invariant-loop-part
invariant-loop-part l = (end : Found) → Finds l.style.locales (asked_in_parts (map view_date_part (drop l.part-index l.parts))) l.found end → Finds l.style.locales (asked_in_parts (map view_date_part l.parts)) l.fn.found end
