use Rattle.csl_context.proofs.Contents.{after_opening}
use Rattle.csl_context.proofs.context.Context.open_part.Goals as goal

pub invariant_of-self : goal.invariant_of-self
invariant_of-self g c = after_opening c.open-opened.result c.self.inside.writing.content c.open-opened.new.self c.open-opened.ensures.ok c.open-opened.ensures.err c.self.invariant
