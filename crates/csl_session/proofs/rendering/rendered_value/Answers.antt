use Rattle.csl.specs.Tree.Tokens.{tokens}
use Rattle.serde_json.specs.View.{view}
use Rattle.csl_session.proofs.Rendered.{content_made}
use Rattle.csl_session.proofs.rendering.rendered_value.Goals as goal

pub returns : goal.returns
returns c = content_made c.args.formats (tokens c.args.rendered.content) c.in_ok-content.content (view c.in_ok-value.value) c.in_ok-content.ensures c.in_ok-value.ensures
