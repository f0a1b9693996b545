use Rattle.std.proofs.Common.{◌≡◌, ◌+◌, drop, map, option_map}
use Rattle.csl_elements.specs.declared.element.Choose.{out-Choose}
use Rattle.csl_elements.specs.View.{view_nodes, view_branch, view_choose, branches_of}
use Rattle.csl_context.specs.Context.{render_input}
use Rattle.csl_nodes.specs.Condition.{chosen_nodes, chosen_children}
use Rattle.csl_render.proofs.choose.first_taken.Given as goal

-- the remaining branches take the same nodes as all branches
abbrev pub invariant-loop-branch : goal.invariant-loop-branch
invariant-loop-branch g l =
    let choose = out-Choose l.choose in
    let w = render_input g.T.EntryLike.answers l.ctx in
    record {
      counted : l.before ≡ l.branch-index + 1;
      taken : chosen_nodes w l.ctx.state (branches_of (map view_branch (drop l.branch-index l.branch-items)) (option_map (λ v. view_nodes v.items) choose.otherwise)) ≡ chosen_children w l.ctx.state (view_choose l.choose);
    }
