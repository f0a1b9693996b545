use Rattle.csl_context.proofs.Contents.{after_closing}
use Rattle.csl_context.proofs.context.Context.splice.Goals as goal

pub invariant_of-self : goal.invariant_of-self
invariant_of-self g c =
    let old = c.self.inside.writing.content in
    after_closing c.splice_part-written.result old.inner old c.splice_part-written.new.parts c.splice_part-written.ensures.ok c.splice_part-written.ensures.err c.self.invariant.0 c.self.invariant
