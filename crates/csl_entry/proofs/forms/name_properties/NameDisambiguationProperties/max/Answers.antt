use Rattle.std.proofs.Common.{◌∙◌, ap, sym}
use Rattle.std.specs.Ordering.{is_gt}
use Rattle.csl_entry.specs.NameProperties.{name_properties}
use Rattle.csl_entry.proofs.FormOrder.{at_least_itself, at_least_other}
use Rattle.csl_entry.proofs.forms.name_properties.NameDisambiguationProperties.max.Goals as goal

pub returns-then-is_gt-clause-at_least_self : goal.returns-then-is_gt-clause-at_least_self
returns-then-is_gt-clause-at_least_self c = at_least_itself (name_properties c.args.self)

pub returns-then-is_gt-clause-at_least_other : goal.returns-then-is_gt-clause-at_least_other
returns-then-is_gt-clause-at_least_other c = at_least_other (name_properties c.args.self) (name_properties c.args.other) (ap is_gt (sym c.compare.ensures) ∙ sym c.is_gt.ensures ∙ c.if-is_gt.true)

pub returns-else-is_gt-clause-at_least_other : goal.returns-else-is_gt-clause-at_least_other
returns-else-is_gt-clause-at_least_other c = at_least_itself (name_properties c.args.other)
