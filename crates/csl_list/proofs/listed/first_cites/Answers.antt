use Rattle.std.proofs.Common.{rules, ap, ◌∙◌, arith}
use Rattle.std.proofs.lemmas.List.{take_all}
use Rattle.csl_list.specs.Listed.{is_cited}
use Rattle.csl_list.proofs.Firsts.{none_noted}
use Rattle.csl_list.proofs.listed.first_cites.Goals as goal

pub loop-place-init : goal.loop-place-init
loop-place-init c = (search rules, none_noted c.in_ok-first_cites.first_cites.items c.args.works (c.in_ok-first_cites.ensures.items_if_clones_equal (λ y h. search rules)))

pub returns-clause-cited : goal.returns-clause-cited
returns-clause-cited c work = c.loop-place.invariant.1 work ∙ ap (λ ws. is_cited ws work) (take_all c.loop-place.place c.args.cited.now (omega arith))
