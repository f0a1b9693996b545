use Rattle.csl_tree.proofs.ContentLaws.{IsContent-text}
use Rattle.csl_context.specs.Texts.{formatted_text, strip_if}
use Rattle.csl_context.proofs.Contents.{after_writing}
use Rattle.csl_context.proofs.context.Context.push_str_in.Goals as goal

pub invariant_of-self : goal.invariant_of-self
invariant_of-self g c =
    let pen = c.text_writer_in-pen.result in
    after_writing c.write-written.result (formatted_text pen.strip_periods pen.formatting c.args.text.now) c.self.inside.writing.content c.write-written.new.parts c.write-written.ensures.ok c.write-written.ensures.err (IsContent-text (strip_if pen.strip_periods c.args.text.now) pen.formatting) c.self.invariant
