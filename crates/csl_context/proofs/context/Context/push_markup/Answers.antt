use Rattle.csl_tree.specs.Content.{markup_content}
use Rattle.csl_tree.proofs.ContentLaws.{IsContent-markup}
use Rattle.csl_context.proofs.Contents.{after_writing}
use Rattle.csl_context.proofs.context.Context.push_markup.Goals as goal

pub invariant_of-self : goal.invariant_of-self
invariant_of-self g c =
    after_writing c.write_markup-written.result (markup_content c.args.text.now) c.self.inside.writing.content c.write_markup-written.new.parts c.write_markup-written.ensures.ok c.write_markup-written.ensures.err (IsContent-markup c.args.text.now) c.self.invariant
