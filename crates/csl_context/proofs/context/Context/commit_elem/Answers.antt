use Rattle.csl_tree.specs.Content.{elem_content}
use Rattle.csl_tree.specs.Tokens.{optional_meta}
use Rattle.csl_tree.proofs.ContentLaws.{IsContent-boxed}
use Rattle.csl_context.proofs.Contents.{after_closing, is_empty-content}
use Rattle.csl_context.proofs.context.Context.commit_elem.Goals as goal

pub invariant_of-self : goal.invariant_of-self
invariant_of-self g c =
    let old = c.self.inside.writing.content in
    let d = c.args.display in
    let m = optional_meta c.args.meta in
    after_closing c.close_elem-written.result (elem_content d m old.inner) old c.close_elem-written.new.self c.close_elem-written.ensures.ok c.close_elem-written.ensures.err (IsContent-boxed d m old.inner c.self.invariant.0) c.self.invariant

pub returns-in_err-ensure_live-clause-empty : goal.returns-in_err-ensure_live-clause-empty
returns-in_err-ensure_live-clause-empty g c = rw (← c.self.view_is) (is_empty-content c.self.inside.writing.content.inner c.self.invariant.0)

pub returns-in_err-or_fail-clause-empty : goal.returns-in_err-or_fail-clause-empty
returns-in_err-or_fail-clause-empty g c = rw (← c.self.view_is) (is_empty-content c.self.inside.writing.content.inner c.self.invariant.0)

pub returns-clause-empty : goal.returns-clause-empty
returns-clause-empty g c = rw (← c.self.view_is) (is_empty-content c.self.inside.writing.content.inner c.self.invariant.0)
