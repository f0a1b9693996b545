use Rattle.std.proofs.Common.{◌≡◌, ◌+◌, ◌-◌, ◌*◌, ◌≤◌, max, drop, map, option_map, not}
use Rattle.std.proofs.Math.Dec.{eqb}
use Rattle.csl_elements.specs.declared.element.Choose.{out-Choose}
use Rattle.csl_elements.specs.Node.{size, sizes, expanded_branches_size, expand, expand_nodes, expand_branches}
use Rattle.csl_elements.specs.View.{view_node, view_nodes, view_names, view_child, view_choose, view_branch, substitutes, branches_of}
use Rattle.csl_style.specs.Expanded.{child_size, macro_env}
use Rattle.csl_style.specs.Depth.{node_depth, nodes_depth, branches_depth}
use Rattle.csl_style.specs.Size.{counted, weight, weights, branches_weight}
use Rattle.csl_style.proofs.YearSuffixes.{substitutes_size}
use Rattle.csl_style.proofs.Depths.{written_depth}
use Rattle.csl_style.proofs.Weights.{children_weight}
use Rattle.csl_style.proofs.size.+size.Given as goal

abbrev pub decreases-room_left_by : goal.decreases-room_left_by
decreases-room_left_by g l = 2 * size (expand (macro_env l.style.now) (view_node l.element.now)) + 1

abbrev pub decreases-room_left_by_all : goal.decreases-room_left_by_all
decreases-room_left_by_all g l = 2 * sizes (expand_nodes (macro_env l.style.now) (view_nodes l.elements.now))

abbrev pub decreases-room_left_by_names : goal.decreases-room_left_by_names
decreases-room_left_by_names g l = 2 * size (expand (macro_env l.style.now) (view_names l.names.now))

abbrev pub decreases-room_left_by_child : goal.decreases-room_left_by_child
decreases-room_left_by_child g l = 2 * child_size (macro_env l.style.now) (view_child l.child.now)

abbrev pub decreases-room_left_by_choose : goal.decreases-room_left_by_choose
decreases-room_left_by_choose g l = 2 * size (expand (macro_env l.style.now) (view_choose l.choose.now))

-- The room that is left is the given room without the weights of the elements so far. All of them
-- are within the limit of depth if the remaining ones are.
abbrev pub invariant-room_left_by_all-loop-element : goal.invariant-room_left_by_all-loop-element
invariant-room_left_by_all-loop-element g l =
    let rest = expand_nodes (macro_env l.style) (view_nodes (drop l.element-index l.elements)) in
    let all = expand_nodes (macro_env l.style) (view_nodes l.elements) in
    let once = not (eqb g.row.ONCE 0) in
    let locales = counted once l.style.locales in
    record {
      taken : l.left + weights once locales all ≡ l.room + weights once locales rest;
      lighter : weights once locales rest ≤ weights once locales all;
      deep : max l.most (nodes_depth rest) ≡ max l.most (nodes_depth all);
      inside : sizes rest ≤ sizes all;
    }

abbrev pub invariant-room_left_by_names-loop-child : goal.invariant-room_left_by_names-loop-child
invariant-room_left_by_names-loop-child g l =
    let env = macro_env l.style in
    let rest = map view_child (drop l.child-index l.child-items) in
    let all = expand env (view_names l.names) in
    let once = not (eqb g.row.ONCE 0) in
    let locales = counted once l.style.locales in
    record {
      taken : l.left + weight once locales all ≡ l.room + children_weight once locales env rest;
      lighter : children_weight once locales env rest + 1 ≤ weight once locales all;
      deep : max l.most (written_depth env (substitutes rest) + 1) ≡ max l.most (node_depth all);
      inside : substitutes_size env (substitutes rest) + 1 ≤ size all;
    }

-- The weight is that of the heaviest branch so far, or what was taken so far and the remaining branches.
abbrev pub invariant-room_left_by_choose-loop-branch : goal.invariant-room_left_by_choose-loop-branch
invariant-room_left_by_choose-loop-branch g l =
    let env = macro_env l.style in
    let choose = out-Choose l.choose in
    let rest = expand_branches env (branches_of (map view_branch (drop l.branch-index l.branch-items)) (option_map (λ v. view_nodes v.items) choose.otherwise)) in
    let all = expand env (view_choose l.choose) in
    let once = not (eqb g.row.ONCE 0) in
    let locales = counted once l.style.locales in
    record {
      heaviest : max (l.room - l.least) ((l.room - l.next) + branches_weight once locales rest) ≡ weight once locales all;
      least : l.least ≤ l.room;
      next : l.next ≤ l.room;
      deep : max l.most (branches_depth rest + 1) ≡ max l.most (node_depth all);
      inside : expanded_branches_size rest + 1 ≤ size all;
    }
