use Rattle.serde_json.specs.View.{view}
use Rattle.csl_session.proofs.Replied.{answered, failed}
use Rattle.csl_session.proofs.replies.reply_value.Goals as goal

pub returns-in_ok-reply-in-Ok : goal.returns-in_ok-reply-in-Ok
returns-in_ok-reply-in-Ok c = answered (view c.args.id.now) (view c.in-Ok.value) (view c.in_ok-reply-in-Ok.reply) c.in_ok-reply-in-Ok.ensures

pub returns-in_ok-reply-in-Err : goal.returns-in_ok-reply-in-Err
returns-in_ok-reply-in-Err c = failed (view c.args.id.now) (view c.in_ok-error-in-Err.error) (view c.in_ok-reply-in-Err.reply) c.in_ok-reply-in-Err.ensures
