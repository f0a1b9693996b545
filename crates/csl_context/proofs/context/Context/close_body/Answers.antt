use Rattle.std.proofs.Common.{rules}
use Rattle.csl_context.specs.Bodies.{body_attributes}
use Rattle.csl_context.specs.declared.error.RenderError.{RenderError}
use Rattle.csl_context.proofs.BodyAround.{still_open_after, closed_live, closed_fails}
use Rattle.csl_context.proofs.context.Context.close_body.Goals as goal

pub close_affixes-requires-clause-live : goal.close_affixes-requires-clause-live
close_affixes-requires-clause-live g c = closed_live (body_attributes c.args.around) _ _ c.in_ok-moved.ensures.after

pub close_affixes-requires-clause-parts : goal.close_affixes-requires-clause-parts
close_affixes-requires-clause-parts g c = still_open_after (body_attributes c.args.around) c.args.before c.args.self.now _ _ c.leave_body.ensures c.in_ok-moved.ensures.after c.requires.parts

pub returns-in_err-close_affixes : goal.returns-in_err-close_affixes
returns-in_err-close_affixes g c =
    let fails = λ (error : RenderError). closed_fails (body_attributes c.args.around) c.args.before c.args.self.now _ _ c.close_affixes.new.self error c.leave_body.ensures c.in_ok-moved.ensures.after in
    search (rules, fails)
