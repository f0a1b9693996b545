use Rattle.std.proofs.Common.{sym, ◌∙◌}
use Rattle.lit_model.proofs.Marking.{one_letter, more_letters}
use Rattle.lit_model.proofs.first_names.is_single_capital.Goals as goal

pub returns-in-None-next : goal.returns-in-None-next
returns-in-None-next c = c.is_capital.ensures ∙ one_letter c.args.text.now c.next.new.self.rest.now c.in-Some.first c.utf8.text (sym c.chars-rest.ensures.rest ∙ c.in-Some.ensures.steps.0) c.in-None-next.ensures.steps.0.0

pub returns-in-Some-next : goal.returns-in-Some-next
returns-in-Some-next c = more_letters c.args.text.now c.next.new.self.rest.now c.next-in-Some.new.self.rest.now c.in-Some.first c.in-Some-next._second c.utf8.text (sym c.chars-rest.ensures.rest ∙ c.in-Some.ensures.steps.0) c.in-Some-next.ensures.steps.0
