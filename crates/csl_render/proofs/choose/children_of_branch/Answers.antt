use Rattle.std.proofs.Common.{◌≡◌, ◌<◌, ◌≤◌, ◌+◌, ◌-◌, length, get_or, Some, option_map, subst, sym, ap, ◌∙◌, arith}
use Rattle.csl_elements.specs.View.{view_nodes, view_choose}
use Rattle.csl_render.specs.Plan.{nodes_of_branch}
use Rattle.csl_render.proofs.Chosen.{branch_here, branch_last, branch_view, choice_within}
use Rattle.csl_render.proofs.choose.children_of_branch.Goals as goal

pub returns-in-Some-clause-value : goal.returns-in-Some-clause-value
returns-in-Some-clause-value c =
    let choose = c.args.choose.now in
    let i = c.args.branch - 1 in
    let after : c.args.branch ≡ i + 1 = omega (arith, c.if-branch-eq0.false) in
    let taken = c.in-Some.taken.now in
    let within = subst (λ bs. i < length bs) c.deref.ensures.value c.in-Some.ensures.lookup.3.0 in
    let is = subst (λ bs. taken ≡ get_or bs i taken) c.deref.ensures.value c.in-Some.ensures.lookup.1 in
    ap (λ ns. Some (view_nodes ns)) c.as_slice-in-Some.ensures.value
    ∙ ap Some (sym (branch_view taken))
    ∙ sym (branch_here choose i taken within is)
    ∙ ap (nodes_of_branch (view_choose choose)) (sym after)

pub returns-in-Some-clause-within : goal.returns-in-Some-clause-within
returns-in-Some-clause-within c env =
    let choose = c.args.choose.now in
    let i = c.args.branch - 1 in
    let after : c.args.branch ≡ i + 1 = omega (arith, c.if-branch-eq0.false) in
    let taken = c.in-Some.taken.now in
    let within = subst (λ bs. i < length bs) c.deref.ensures.value c.in-Some.ensures.lookup.3.0 in
    let is = subst (λ bs. taken ≡ get_or bs i taken) c.deref.ensures.value c.in-Some.ensures.lookup.1 in
    choice_within env choose c.args.branch _ (ap (λ ns. Some (view_nodes ns)) c.as_slice-in-Some.ensures.value
    ∙ ap Some (sym (branch_view taken))
    ∙ sym (branch_here choose i taken within is)
    ∙ ap (nodes_of_branch (view_choose choose)) (sym after))

pub returns-in-Some-otherwise-clause-value : goal.returns-in-Some-otherwise-clause-value
returns-in-Some-otherwise-clause-value c =
    let choose = c.args.choose.now in
    let i = c.args.branch - 1 in
    let after : c.args.branch ≡ i + 1 = omega (arith, c.if-branch-eq0.false) in
    let behind = subst (λ bs. length bs ≤ i) c.deref.ensures.value c.in-None.ensures.lookup.3 in
    ap (λ ns. Some (view_nodes ns)) c.as_slice-in-Some-otherwise.ensures.value
    ∙ ap (option_map (λ v. view_nodes v.items)) (sym c.in-Some-otherwise.is)
    ∙ sym (branch_last choose i behind)
    ∙ ap (nodes_of_branch (view_choose choose)) (sym after)

pub returns-in-Some-otherwise-clause-within : goal.returns-in-Some-otherwise-clause-within
returns-in-Some-otherwise-clause-within c env =
    let choose = c.args.choose.now in
    let i = c.args.branch - 1 in
    let after : c.args.branch ≡ i + 1 = omega (arith, c.if-branch-eq0.false) in
    let behind = subst (λ bs. length bs ≤ i) c.deref.ensures.value c.in-None.ensures.lookup.3 in
    choice_within env choose c.args.branch _ (ap (λ ns. Some (view_nodes ns)) c.as_slice-in-Some-otherwise.ensures.value
    ∙ ap (option_map (λ v. view_nodes v.items)) (sym c.in-Some-otherwise.is)
    ∙ sym (branch_last choose i behind)
    ∙ ap (nodes_of_branch (view_choose choose)) (sym after))

pub returns-in-None-otherwise-clause-value : goal.returns-in-None-otherwise-clause-value
returns-in-None-otherwise-clause-value c =
    let choose = c.args.choose.now in
    let i = c.args.branch - 1 in
    let after : c.args.branch ≡ i + 1 = omega (arith, c.if-branch-eq0.false) in
    let behind = subst (λ bs. length bs ≤ i) c.deref.ensures.value c.in-None.ensures.lookup.3 in
    ap (option_map (λ v. view_nodes v.items)) (sym c.in-None-otherwise.is)
    ∙ sym (branch_last choose i behind)
    ∙ ap (nodes_of_branch (view_choose choose)) (sym after)
