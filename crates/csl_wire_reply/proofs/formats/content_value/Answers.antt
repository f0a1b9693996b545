use Rattle.serde_json.specs.View.{members_view, view}
use Rattle.csl_wire_reply.proofs.Contents.{with_all, with_web}
use Rattle.csl_wire_reply.proofs.formats.content_value.Goals as goal

pub returns-then-formats : goal.returns-then-formats
returns-then-formats c = with_all c.args.formats c.args.content (members_view c.in_ok-members.members.entries) (view c.in_ok-value.value) c.if-formats.true c.in_ok-members.ensures c.in_ok-value.ensures

pub returns : goal.returns
returns c = with_web c.args.formats c.args.content c.in_ok-linked.linked (members_view c.in_ok-members.members.entries) (view c.in_ok-value-2.value) c.if-formats.false c.in_ok-linked.ensures.text c.in_ok-linked.ensures.web c.in_ok-members.ensures c.in_ok-value-2.ensures
