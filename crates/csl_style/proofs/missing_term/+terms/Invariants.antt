use Rattle.std.proofs.Common.{◌+◌, ◌*◌, ◌≤◌, drop, map, option_map}
use Rattle.csl_elements.specs.declared.element.Choose.{out-Choose}
use Rattle.csl_elements.specs.Node.{size, sizes, expanded_branches_size, expand, expand_nodes, expand_branches, expand_substitutes, expand_substitute_nodes}
use Rattle.csl_elements.specs.NamesParts.{parts_node}
use Rattle.csl_elements.specs.View.{view_node, view_nodes, view_names, view_child, view_choose, view_branch, view_text, substitutes, branches_of}
use Rattle.csl_style.specs.declared.missing_term.Found.{Found}
use Rattle.csl_style.specs.Expanded.{child_size, macro_env}
use Rattle.csl_style.specs.FoundTerms.{Finds}
use Rattle.csl_style.specs.MissingTerm.{asked_in_node, asked_in_nodes, asked_in_branches, asked_in_substitutes}
use Rattle.csl_style.proofs.YearSuffixes.{substitutes_size}
use Rattle.csl_style.proofs.missing_term.+terms.Given as goal

abbrev pub decreases-visit : goal.decreases-visit
decreases-visit l = 3 * size (expand (macro_env l.style.now) (view_node l.element.now)) + 1

abbrev pub decreases-visit_all : goal.decreases-visit_all
decreases-visit_all l = 3 * sizes (expand_nodes (macro_env l.style.now) (view_nodes l.elements.now))

abbrev pub decreases-visit_text : goal.decreases-visit_text
decreases-visit_text l = 3 * size (expand (macro_env l.style.now) (view_text l.text.now))

abbrev pub decreases-visit_names : goal.decreases-visit_names
decreases-visit_names l = 3 * size (expand (macro_env l.style.now) (view_names l.names.now))

abbrev pub decreases-visit_child : goal.decreases-visit_child
decreases-visit_child l = 3 * child_size (macro_env l.style.now) (view_child l.child.now)

abbrev pub decreases-visit_substitute : goal.decreases-visit_substitute
decreases-visit_substitute l = 3 * sizes (expand_nodes (macro_env l.style.now) (view_nodes l.elements.now))

abbrev pub decreases-visit_substitute_child : goal.decreases-visit_substitute_child
decreases-visit_substitute_child l = 3 * size (expand (macro_env l.style.now) (view_node l.element.now)) + 2

abbrev pub decreases-visit_choose : goal.decreases-visit_choose
decreases-visit_choose l = 3 * size (expand (macro_env l.style.now) (view_choose l.choose.now))

-- after the remaining elements is found what is found after all
abbrev pub invariant-visit_all-loop-element : goal.invariant-visit_all-loop-element
invariant-visit_all-loop-element l =
    let rest = expand_nodes (macro_env l.style) (view_nodes (drop l.element-index l.elements)) in
    let all = expand_nodes (macro_env l.style) (view_nodes l.elements) in
    record {
      told : (end : Found) → Finds l.style.locales (asked_in_nodes l.style.locales l.around rest) l.found end
          → Finds l.style.locales (asked_in_nodes l.style.locales l.around all) l.fn.found end;
      inside : sizes rest ≤ sizes all;
    }

abbrev pub invariant-visit_substitute-loop-element : goal.invariant-visit_substitute-loop-element
invariant-visit_substitute-loop-element l =
    let rest = view_nodes (drop l.element-index l.elements) in
    let all = view_nodes l.elements in
    record {
      told : (end : Found) → Finds l.style.locales (asked_in_nodes l.style.locales l.around (expand_substitute_nodes (macro_env l.style) (parts_node l.original) rest)) l.found end
          → Finds l.style.locales (asked_in_nodes l.style.locales l.around (expand_substitute_nodes (macro_env l.style) (parts_node l.original) all)) l.fn.found end;
      inside : sizes (expand_nodes (macro_env l.style) rest) ≤ sizes (expand_nodes (macro_env l.style) all);
    }

abbrev pub invariant-visit_names-loop-child : goal.invariant-visit_names-loop-child
invariant-visit_names-loop-child l =
    let env = macro_env l.style in
    let rest = substitutes (map view_child (drop l.child-index l.child-items)) in
    record {
      told : (end : Found) → Finds l.style.locales (asked_in_substitutes l.style.locales l.inside (expand_substitutes env (parts_node l.parts) rest)) l.found end
          → Finds l.style.locales (asked_in_node l.style.locales l.fn.around (expand env (view_names l.names))) l.fn.found end;
      inside : substitutes_size env rest + 1 ≤ size (expand env (view_names l.names));
    }

abbrev pub invariant-visit_choose-loop-branch : goal.invariant-visit_choose-loop-branch
invariant-visit_choose-loop-branch l =
    let env = macro_env l.style in
    let choose = out-Choose l.choose in
    let rest = expand_branches env (branches_of (map view_branch (drop l.branch-index l.branch-items)) (option_map (λ v. view_nodes v.items) choose.otherwise)) in
    record {
      told : (end : Found) → Finds l.style.locales (asked_in_branches l.style.locales l.around rest) l.found end
          → Finds l.style.locales (asked_in_node l.style.locales l.around (expand env (view_choose l.choose))) l.fn.found end;
      inside : expanded_branches_size rest + 1 ≤ size (expand env (view_choose l.choose));
    }
