use Rattle.std.proofs.Common.{◌≡◌, drop}
use Rattle.csl_context.specs.Context.{render_input}
use Rattle.csl_names.specs.NamesLists.{all_empty, peeked_lists}
use Rattle.csl_names.proofs.names.lists.no_persons.Given as goal

-- the result for the remaining variables is that for all
abbrev pub invariant-loop-variable : goal.invariant-loop-variable
invariant-loop-variable g l =
    let w = render_input g.T.EntryLike.answers l.ctx in
    all_empty (peeked_lists w l.ctx.state (drop l.variable-index l.variables)) ≡ all_empty (peeked_lists w l.ctx.state l.variables)
