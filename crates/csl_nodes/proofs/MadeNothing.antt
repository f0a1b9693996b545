-- Appending the empty content leaves a context unchanged.
use Rattle.std.proofs.Common.{◌≡◌, [], sym, ap}
use Rattle.csl_tree.proofs.Joins.{join-none}
use Rattle.csl_context.specs.Context.{ContextView}
use Rattle.csl_nodes.specs.Text.{render_output, with_output}

pub made_nothing : {T : Type 0} (now : ContextView T) → now ≡ with_output (render_output [] now.state) now
made_nothing now = ap (λ l. record now { inner = l }) (sym (join-none now.inner))
