use Rattle.csl_samples.proofs.Made.{instead_made}
use Rattle.csl_samples.proofs.styles.instead_of_authors.Goals as goal

pub returns : goal.returns
returns c = instead_made c.in_ok-children.children c.in_ok-editors.editors _ c.in_ok-children.ensures.items c.in_ok-editors.ensures
