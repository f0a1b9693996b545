use Rattle.std.proofs.Common.{◌≡◌, drop, map, ◌++◌}
use Rattle.csl_context.specs.Context.{render_input}
use Rattle.csl_names.specs.NamesLists.{peeked_lists, list_of}
use Rattle.csl_names.proofs.names.lists.peeked_lists.Given as goal

-- the lists so far, with those of the remaining variables, are all lists
abbrev pub invariant-loop-variable : goal.invariant-loop-variable
invariant-loop-variable g l =
    let w = render_input g.T.EntryLike.answers l.ctx in
    map list_of l.lists.items ++ peeked_lists w l.ctx.state (drop l.variable-index l.variables) ≡ peeked_lists w l.ctx.state l.variables
