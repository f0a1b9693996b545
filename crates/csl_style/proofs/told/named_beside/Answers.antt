use Rattle.std.proofs.Common.{ap, ◌∙◌}
use Rattle.csl_elements.specs.NamedSet.{named_union}
use Rattle.csl_style.specs.Named.{the_variable}
use Rattle.csl_style.proofs.NamedNodes.{join_comm}
use Rattle.csl_style.proofs.told.named_beside.Goals as goal

pub returns : goal.returns
returns c = c.in_ok-add_variable.ensures ∙ ap (λ s. named_union s (the_variable c.args.variable)) c.in_ok-named.ensures ∙ join_comm _ _
