use Rattle.csl_tree.specs.Content.{link_content}
use Rattle.csl_tree.proofs.ContentLaws.{IsContent-link}
use Rattle.csl_context.proofs.Contents.{after_writing}
use Rattle.csl_context.proofs.context.Context.push_link.Goals as goal

pub invariant_of-self : goal.invariant_of-self
invariant_of-self g c =
    let f = c.text_writer-pen.result.formatting in
    after_writing c.write_link-written.result (link_content c.args.text.now f c.args.url.now) c.self.inside.writing.content c.write_link-written.new.parts c.write_link-written.ensures.ok c.write_link-written.ensures.err (IsContent-link c.args.text.now f c.args.url.now) c.self.invariant
