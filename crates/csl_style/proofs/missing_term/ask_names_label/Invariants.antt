use Rattle.std.proofs.Common.{drop, Some}
use Rattle.csl_style.specs.declared.missing_term.Found.{Found}
use Rattle.csl_style.specs.FoundTerms.{Finds}
use Rattle.csl_elements.specs.Names.{view_label}
use Rattle.csl_style.specs.MissingTerm.{asked_in_names_label}
use Rattle.csl_style.proofs.missing_term.ask_names_label.Given as goal

-- after the remaining items is found what is found after all
abbrev pub invariant-loop-variable : goal.invariant-loop-variable
invariant-loop-variable l = (end : Found) → Finds l.style.locales (asked_in_names_label (Some (view_label l.written)) (drop l.variable-index l.variables)) l.found end → Finds l.style.locales (asked_in_names_label (Some (view_label l.written)) l.variables) l.fn.found end
