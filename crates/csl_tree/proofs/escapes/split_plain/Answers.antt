use Rattle.std.proofs.Common.{rules, ap, ◌∙◌}
use Rattle.std.specs.List.{list_all}
use Rattle.csl_tree.specs.Escapes.{is_plain}
use Rattle.csl_tree.proofs.Escaped.{plain_front, all_plain}
use Rattle.csl_tree.proofs.escapes.split_plain.Goals as goal

pub returns-in-Some-clause-plain : goal.returns-in-Some-clause-plain
returns-in-Some-clause-plain c =
    ap (list_all is_plain) c.split_at.ensures.front ∙ plain_front c.args.text.now c.in-Some.at (λ i l. search rules)

pub returns-in-None-clause-plain : goal.returns-in-None-clause-plain
returns-in-None-clause-plain c = all_plain c.args.text.now (λ i l. search rules)
