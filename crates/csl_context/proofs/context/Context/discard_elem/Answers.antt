use Rattle.std.proofs.Common.{[]}
use Rattle.csl_tree.specs.Content.{nothing}
use Rattle.csl_context.proofs.Contents.{after_the_close}
use Rattle.csl_context.proofs.context.Context.discard_elem.Goals as goal

pub invariant_of-self : goal.invariant_of-self
invariant_of-self g c = after_the_close [] c.self.inside.writing.content c.drop_part.new.parts c.drop_part.ensures nothing c.self.invariant
