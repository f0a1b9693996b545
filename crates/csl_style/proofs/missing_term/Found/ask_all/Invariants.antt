use Rattle.std.proofs.Common.{drop}
use Rattle.csl_style.specs.declared.missing_term.Found.{Found}
use Rattle.csl_style.specs.FoundTerms.{Finds}
use Rattle.csl_style.proofs.missing_term.Found.ask_all.Given as goal

-- after the remaining items is found what is found after all
abbrev pub invariant-loop-term : goal.invariant-loop-term
invariant-loop-term l = (end : Found) → Finds l.style.locales (drop l.term-index l.asked) l.self end → Finds l.style.locales (l.asked) l.fn.self end
