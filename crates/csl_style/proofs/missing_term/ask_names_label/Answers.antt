use Rattle.std.proofs.Common.{[], ◌∷◌, Some, refl}
use Rattle.csl_elements.specs.Names.{view_label}
use Rattle.csl_elements.specs.declared.term.Term.TheVariants as terms
use Rattle.csl_style.proofs.AskedTerms.{next_found, last_found, finds_none}
use Rattle.csl_style.specs.MissingTerm.{asked_in_names_label}
use Rattle.csl_style.proofs.missing_term.ask_names_label.Goals as goal

pub loop-variable-preserved : goal.loop-variable-preserved
loop-variable-preserved c = λ end f. c.loop-variable.invariant end (next_found c.args.style.now.locales (asked_in_names_label (Some (view_label c.in-Some.written.now))) (λ v. (terms.Name v, c.in-Some.written.now.form) ∷ []) (λ v vs. refl) c.args.variables.now c.loop-variable.variable-index _ _ c.loop-variable.found c.ask.new.self end c.loop-variable-test.true refl c.ask.ensures f)

pub returns-after-loop-variable : goal.returns-after-loop-variable
returns-after-loop-variable c = rw c.in-Some.is (c.loop-variable.invariant _ (last_found c.args.style.now.locales (asked_in_names_label (Some (view_label c.in-Some.written.now))) c.args.variables.now c.loop-variable.variable-index c.loop-variable.found c.loop-variable.found c.loop-variable-test.false (finds_none c.args.style.now.locales c.loop-variable.found)))
