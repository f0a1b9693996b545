use Rattle.serde_json.specs.View.{members_view, view}
use Rattle.csl_wire_reply.proofs.Contents.{tree_put}
use Rattle.csl_wire_reply.proofs.formats.put_tree.Goals as goal

pub returns : goal.returns
returns c = tree_put c.args.content.now c.in_ok-simple.simple (members_view c.args.members.now.entries) (members_view c.put.new.members.entries) (view c.in_ok-value.value) c.in_ok-simple.ensures.rounds c.in_ok-value.ensures c.in_ok-put.ensures
