use Rattle.std.proofs.Common.{ap, ◌∙◌, not}
use Rattle.csl.specs.Style.NamedSet.{NamedSet, a_variable, named_set}
use Rattle.csl.specs.Style.Tested.{variables_of_tests}
use Rattle.csl.specs.Render.Names.{author}
use Rattle.csl_uses.proofs.halves.is_other_half_silent.Goals as goal

pub returns : goal.returns
unfolding named_set
returns c =
    ap not (c.contains.ensures ∙ ap (λ (s : NamedSet). s (a_variable author)) (c.in_ok-tested.ensures ∙ ap (variables_of_tests c.args.style.now) c.citation.ensures))
