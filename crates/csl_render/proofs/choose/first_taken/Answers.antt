use Rattle.std.proofs.Common.{◌≡◌, ◌<◌, ◌≤◌, drop, length, map, get_or, subst, sym, ◌∙◌, arith}
use Rattle.csl_elements.specs.View.{view_branch, view_choose, branches_of}
use Rattle.csl_context.specs.Context.{render_input}
use Rattle.csl_nodes.specs.Condition.{chosen_nodes, chosen_children}
use Rattle.csl_render.proofs.Chosen.{others, here_holds, none_holds}
use Rattle.csl_render.proofs.choose.first_taken.Goals as goal

pub returns-then-branch-2-clause-value : goal.returns-then-branch-2-clause-value
returns-then-branch-2-clause-value g c =
    let choose = c.args.choose.now in
    let w = render_input g.T.EntryLike.answers c.args.ctx.now in
    let s = c.args.ctx.now.state in
    let i = c.loop-branch.branch-index in
    let b = c.branch-item.result in
    let all = c.deref-branch-items.ensures.value in
    let within = subst (λ bs. i < length bs) all c.loop-branch-test.true in
    let is = subst (λ bs. b ≡ get_or bs i b) all c.branch-item.is in
    let rest = subst (λ bs. chosen_nodes w s (branches_of (map view_branch (drop i bs)) (others w s choose)) ≡ chosen_children w s (view_choose choose)) all c.loop-branch.invariant.taken in
    here_holds w s choose i c.loop-branch.before b c.loop-branch.invariant.counted within is (sym c.in_ok-branch_holds-2.ensures.value ∙ c.if-branch-2.true) rest

pub returns-clause-value : goal.returns-clause-value
returns-clause-value g c =
    let choose = c.args.choose.now in
    let w = render_input g.T.EntryLike.answers c.args.ctx.now in
    let s = c.args.ctx.now.state in
    let i = c.loop-branch.branch-index in
    let all = c.deref-branch-items.ensures.value in
    let behind = subst (λ bs. length bs ≤ i) all (omega (arith, c.loop-branch-test.false)) in
    let rest = subst (λ bs. chosen_nodes w s (branches_of (map view_branch (drop i bs)) (others w s choose)) ≡ chosen_children w s (view_choose choose)) all c.loop-branch.invariant.taken in
    none_holds w s choose i c.loop-branch.before c.loop-branch.invariant.counted behind rest
