use Rattle.std.proofs.Common.{drop}
use Rattle.csl_style.specs.declared.missing_term.Found.{Found}
use Rattle.csl_style.specs.FoundTerms.{Finds}
use Rattle.csl_style.specs.MissingTerm.{kind_terms}
use Rattle.csl_style.proofs.missing_term.ask_kinds.Given as goal

-- after the remaining items is found what is found after all
abbrev pub invariant-loop-kind : goal.invariant-loop-kind
invariant-loop-kind l = (end : Found) → Finds l.style.locales (kind_terms l.form (drop l.kind-index l.kinds)) l.found end → Finds l.style.locales (kind_terms l.form l.kinds) l.fn.found end
