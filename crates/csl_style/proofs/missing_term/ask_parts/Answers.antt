use Rattle.std.proofs.Common.{map, refl}
use Rattle.csl_elements.specs.View.{view_date_part}
use Rattle.csl_style.proofs.AskedTerms.{next_found, last_found, finds_none}
use Rattle.csl_style.specs.MissingTerm.{asked_in_part, asked_in_parts}
use Rattle.csl_style.proofs.missing_term.ask_parts.Goals as goal

pub loop-part-preserved : goal.loop-part-preserved
loop-part-preserved c = λ end f. c.loop-part.invariant end (next_found c.args.style.now.locales (λ ps. asked_in_parts (map view_date_part ps)) (λ p. asked_in_part p.name) (λ p ps. refl) c.args.parts.now c.loop-part.part-index c.part-item.result c.part-item.result c.loop-part.found c.ask_part.new.found end c.loop-part-test.true c.part-item.is c.ask_part.ensures f)

pub returns : goal.returns
returns c = c.loop-part.invariant _ (last_found c.args.style.now.locales (λ ps. asked_in_parts (map view_date_part ps)) c.args.parts.now c.loop-part.part-index c.loop-part.found c.loop-part.found c.loop-part-test.false (finds_none c.args.style.now.locales c.loop-part.found))
