use Rattle.std.proofs.Common.{[], ◌∷◌, refl}
use Rattle.csl_elements.specs.declared.term.Term.TheVariants as terms
use Rattle.csl_style.proofs.AskedTerms.{next_found, last_found, finds_none}
use Rattle.csl_style.specs.MissingTerm.{kind_terms}
use Rattle.csl_style.proofs.missing_term.ask_kinds.Goals as goal

pub loop-kind-preserved : goal.loop-kind-preserved
loop-kind-preserved c = λ end f. c.loop-kind.invariant end (next_found c.args.style.now.locales (kind_terms c.args.form) (λ k. (terms.Locator k, c.args.form) ∷ []) (λ k ks. refl) c.args.kinds.now c.loop-kind.kind-index _ _ c.loop-kind.found c.ask.new.self end c.loop-kind-test.true refl c.ask.ensures f)

pub returns : goal.returns
returns c = c.loop-kind.invariant _ (last_found c.args.style.now.locales (kind_terms c.args.form) c.args.kinds.now c.loop-kind.kind-index c.loop-kind.found c.loop-kind.found c.loop-kind-test.false (finds_none c.args.style.now.locales c.loop-kind.found))
