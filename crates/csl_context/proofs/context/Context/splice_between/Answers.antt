use Rattle.csl_tree.specs.Content.{affixed_content}
use Rattle.csl_tree.specs.Flat.{affix_content}
use Rattle.csl_tree.proofs.ContentLaws.{IsContent-affixed}
use Rattle.csl_context.proofs.Contents.{after_closing, IsContent-affix}
use Rattle.csl_context.proofs.context.Context.splice_between.Goals as goal

pub invariant_of-self : goal.invariant_of-self
invariant_of-self g c =
    let old = c.self.inside.writing.content in
    let p = affix_content c.args.before in
    let s = affix_content c.args.after in
    let is = IsContent-affixed p s old.inner (IsContent-affix c.args.before) (IsContent-affix c.args.after) c.self.invariant.0 in
    after_closing c.close_spliced-written.result (affixed_content p s old.inner) old c.close_spliced-written.new.self c.close_spliced-written.ensures.ok c.close_spliced-written.ensures.err is c.self.invariant
