use Rattle.std.proofs.Common.{[], ◌∷◌}
use Rattle.csl_tree.specs.Content.{nothing, transparent_then}
use Rattle.csl_tree.specs.Tokens.{solid, transparent}
use Rattle.csl_context.proofs.Contents.{after_writing}
use Rattle.csl_context.proofs.context.Context.push_transparent.Goals as goal

pub invariant_of-self : goal.invariant_of-self
invariant_of-self g c =
    let f = c.text_writer-pen.result.formatting in
    after_writing c.write_transparent-written.result (solid (transparent c.args.cite_idx f) ∷ []) c.self.inside.writing.content c.write_transparent-written.new.parts c.write_transparent-written.ensures.ok c.write_transparent-written.ensures.err (transparent_then c.args.cite_idx f [] nothing) c.self.invariant
