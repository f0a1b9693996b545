use Rattle.std.proofs.Common.{[], ◌∷◌, refl}
use Rattle.csl_style.proofs.AskedTerms.{next_found, last_found, finds_none}
use Rattle.csl_style.proofs.missing_term.Found.ask_all.Goals as goal

pub loop-term-preserved : goal.loop-term-preserved
loop-term-preserved c = λ end f. c.loop-term.invariant end (next_found c.args.style.now.locales (λ ts. ts) (λ t. t ∷ []) (λ t ts. refl) c.args.asked.now c.loop-term.term-index _ _ c.loop-term.self c.ask.new.self end c.loop-term-test.true refl c.ask.ensures f)

pub returns : goal.returns
returns c = c.loop-term.invariant _ (last_found c.args.style.now.locales (λ ts. ts) c.args.asked.now c.loop-term.term-index c.loop-term.self c.loop-term.self c.loop-term-test.false (finds_none c.args.style.now.locales c.loop-term.self))
