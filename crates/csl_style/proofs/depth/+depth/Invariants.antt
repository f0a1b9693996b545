use Rattle.std.proofs.Common.{◌≡◌, ◌+◌, ◌*◌, ◌≤◌, max, drop, map, option_map}
use Rattle.csl_elements.specs.declared.element.Choose.{out-Choose}
use Rattle.csl_elements.specs.Node.{size, sizes, expanded_branches_size, expand, expand_nodes, expand_branches}
use Rattle.csl_elements.specs.View.{view_node, view_nodes, view_names, view_child, view_choose, view_branch, substitutes, branches_of}
use Rattle.csl_style.specs.Expanded.{child_size, macro_env}
use Rattle.csl_style.specs.Depth.{node_depth, nodes_depth, branches_depth}
use Rattle.csl_style.proofs.YearSuffixes.{substitutes_size}
use Rattle.csl_style.proofs.Depths.{written_depth}
use Rattle.csl_style.proofs.depth.+depth.Given as goal

abbrev pub decreases-depth : goal.decreases-depth
decreases-depth l = 2 * size (expand (macro_env l.style.now) (view_node l.element.now)) + 1

abbrev pub decreases-depth_of_all : goal.decreases-depth_of_all
decreases-depth_of_all l = 2 * sizes (expand_nodes (macro_env l.style.now) (view_nodes l.elements.now))

abbrev pub decreases-depth_of_names : goal.decreases-depth_of_names
decreases-depth_of_names l = 2 * size (expand (macro_env l.style.now) (view_names l.names.now))

abbrev pub decreases-depth_in_child : goal.decreases-depth_in_child
decreases-depth_in_child l = 2 * child_size (macro_env l.style.now) (view_child l.child.now)

abbrev pub decreases-depth_of_choose : goal.decreases-depth_of_choose
decreases-depth_of_choose l = 2 * size (expand (macro_env l.style.now) (view_choose l.choose.now))

-- the deepest of the elements so far and of the remaining ones is the deepest of all
abbrev pub invariant-depth_of_all-loop-element : goal.invariant-depth_of_all-loop-element
invariant-depth_of_all-loop-element l =
    let rest = expand_nodes (macro_env l.style) (view_nodes (drop l.element-index l.elements)) in
    let all = expand_nodes (macro_env l.style) (view_nodes l.elements) in
    record {
      told : max l.deepest (nodes_depth rest) ≡ nodes_depth all;
      small : l.deepest ≤ l.most;
      inside : sizes rest ≤ sizes all;
    }

abbrev pub invariant-depth_of_names-loop-child : goal.invariant-depth_of_names-loop-child
invariant-depth_of_names-loop-child l =
    let env = macro_env l.style in
    let rest = substitutes (map view_child (drop l.child-index l.child-items)) in
    record {
      told : max l.deepest (written_depth env rest) + 1 ≡ node_depth (expand env (view_names l.names));
      small : l.deepest ≤ l.inside;
      inside : substitutes_size env rest + 1 ≤ size (expand env (view_names l.names));
    }

abbrev pub invariant-depth_of_choose-loop-branch : goal.invariant-depth_of_choose-loop-branch
invariant-depth_of_choose-loop-branch l =
    let env = macro_env l.style in
    let choose = out-Choose l.choose in
    let rest = expand_branches env (branches_of (map view_branch (drop l.branch-index l.branch-items)) (option_map (λ v. view_nodes v.items) choose.otherwise)) in
    record {
      told : max l.deepest (branches_depth rest) + 1 ≡ node_depth (expand env (view_choose l.choose));
      small : l.deepest ≤ l.inside;
      inside : expanded_branches_size rest + 1 ≤ size (expand env (view_choose l.choose));
    }
