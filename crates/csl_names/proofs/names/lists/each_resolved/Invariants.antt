use Rattle.std.proofs.Common.{◌≡◌, false, drop, map, ◌++◌}
use Rattle.csl_context.specs.Context.{render_input}
use Rattle.csl_names.specs.NamesLists.{each_resolved, state_after_resolve_all, list_of}
use Rattle.csl_names.proofs.names.lists.each_resolved.Given as goal

-- the lists so far, with those of the remaining variables in the present state, are all lists
abbrev pub invariant-loop-variable : goal.invariant-loop-variable
invariant-loop-variable g l =
    let w = render_input g.T.EntryLike.answers l.initial.ctx in
    let rest = drop l.variable-index l.variables in
    record {
      sound : l.initial.ctx.failed ≡ false;
      looked : record l.ctx { state = state_after_resolve_all w l.ctx.state rest } ≡ record l.initial.ctx { state = state_after_resolve_all w l.initial.ctx.state l.variables };
      left : map list_of l.lists.items ++ each_resolved w l.ctx.state rest ≡ each_resolved w l.initial.ctx.state l.variables;
    }
