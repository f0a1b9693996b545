use Rattle.csl_tree.specs.Content.{text_content}
use Rattle.csl_tree.proofs.ContentLaws.{IsContent-text}
use Rattle.csl_context.proofs.Contents.{after_writing}
use Rattle.csl_context.proofs.context.Context.push_verbatim.Goals as goal

pub invariant_of-self : goal.invariant_of-self
invariant_of-self g c =
    let f = c.text_writer-pen.result.formatting in
    after_writing c.push_text-written.result (text_content c.args.text.now f) c.self.inside.writing.content c.push_text-written.new.self c.push_text-written.ensures.ok c.push_text-written.ensures.err (IsContent-text c.args.text.now f) c.self.invariant
