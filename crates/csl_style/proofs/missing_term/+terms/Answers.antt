use Rattle.std.proofs.Common.{◌++◌, map, option_map, refl, sym, subst, arith}
use Rattle.std.proofs.lemmas.Grind.{common_steps}
use Rattle.csl_elements.specs.declared.element.Choose.{out-Choose}
use Rattle.csl_elements.specs.Node.{expand, expand_nodes, expand_branches, expand_substitutes, expand_substitute_nodes, as_substitute_child}
use Rattle.csl_elements.specs.NamesParts.{parts_node, names_substitutes}
use Rattle.csl_elements.specs.View.{view_node, view_nodes, view_branch, view_child, branches_of, substitutes}
use Rattle.csl_style.proofs.AskedTerms.{next_found, last_found, finds_none, finds_both, child_first, choose_asked, names_asked}
use Rattle.csl_style.proofs.YearSuffixes.{names_sized, children_sized, choose_sized, nodes_out}
use Rattle.csl_style.proofs.missing_term.+terms.Goals as goal
use Rattle.csl_style.specs.Expanded.{macro_env}
use Rattle.csl_style.specs.FoundTerms.{Finds}
use Rattle.csl_style.specs.MissingTerm.{asked_in_node, asked_in_nodes, asked_in_branches, asked_in_child, asked_in_names, asked_in_substitutes, in_substitutes}

pub visit_all-loop-element-preserved : goal.visit_all-loop-element-preserved
visit_all-loop-element-preserved t c =
    let ls = c.args.style.now.locales in
    let e = macro_env c.args.style.now in
    let a = c.args.around in
    record {
      told = λ end f. c.loop-element.invariant.told end (next_found ls (λ xs. asked_in_nodes ls a (expand_nodes e (view_nodes xs))) (λ x. asked_in_node ls a (expand e (view_node x))) (λ x xs. refl) c.args.elements.now c.loop-element.element-index c.element-item.result c.element-item.result c.loop-element.found c.visit.new.found end c.loop-element-test.true c.element-item.is c.visit.ensures f);
      inside = grind (arith, common_steps);
    }

pub visit_all-returns : goal.visit_all-returns
visit_all-returns t c =
    let ls = c.args.style.now.locales in
    c.loop-element.invariant.told _ (last_found ls (λ xs. asked_in_nodes ls c.args.around (expand_nodes (macro_env c.args.style.now) (view_nodes xs))) c.args.elements.now c.loop-element.element-index c.loop-element.found c.loop-element.found c.loop-element-test.false (finds_none ls c.loop-element.found))

pub visit_substitute-loop-element-preserved : goal.visit_substitute-loop-element-preserved
visit_substitute-loop-element-preserved t c =
    let ls = c.args.style.now.locales in
    let e = macro_env c.args.style.now in
    let a = c.args.around in
    let original = parts_node c.args.original in
    record {
      told = λ end f. c.loop-element.invariant.told end (next_found ls (λ xs. asked_in_nodes ls a (expand_substitute_nodes e original (view_nodes xs))) (λ x. asked_in_node ls a (as_substitute_child original (view_node x) (expand e (view_node x)))) (λ x xs. refl) c.args.elements.now c.loop-element.element-index c.element-item.result c.element-item.result c.loop-element.found c.visit_substitute_child.new.found end c.loop-element-test.true c.element-item.is c.visit_substitute_child.ensures f);
      inside = grind (arith, common_steps);
    }

pub visit_substitute-returns : goal.visit_substitute-returns
visit_substitute-returns t c =
    let ls = c.args.style.now.locales in
    c.loop-element.invariant.told _ (last_found ls (λ xs. asked_in_nodes ls c.args.around (expand_substitute_nodes (macro_env c.args.style.now) (parts_node c.args.original) (view_nodes xs))) c.args.elements.now c.loop-element.element-index c.loop-element.found c.loop-element.found c.loop-element-test.false (finds_none ls c.loop-element.found))

pub visit_choose-loop-branch-init : goal.visit_choose-loop-branch-init
visit_choose-loop-branch-init t c =
    let ls = c.args.style.now.locales in
    let e = macro_env c.args.style.now in
    let choose = c.args.choose.now in
    let first = rw c.deref.ensures.value at c.visit_all.ensures in
    let sized = choose_sized e choose in
    rw c.deref-branch-items.ensures.value record {
      told = λ end f. subst (λ ts. Finds ls ts c.args.found.now end) (sym (choose_asked ls c.args.around e choose)) (finds_both ls _ _ c.args.found.now c.visit_all.new.found end first f);
      inside = omega arith;
    }

pub visit_choose-loop-branch-preserved : goal.visit_choose-loop-branch-preserved
visit_choose-loop-branch-preserved t c =
    let ls = c.args.style.now.locales in
    let e = macro_env c.args.style.now in
    let a = c.args.around in
    let o = option_map (λ v. view_nodes v.items) (out-Choose c.args.choose.now).otherwise in
    let b = c.branch-item.result in
    let before = c.loop-branch.found in
    let after = c.visit_all-in-loop-branch.new.found in
    let step = rw c.deref-in-loop-branch.ensures.value at c.visit_all-in-loop-branch.ensures in
    record {
      told = λ end f. c.loop-branch.invariant.told end (next_found ls (λ bs. asked_in_branches ls a (expand_branches e (branches_of (map view_branch bs) o))) (λ x. asked_in_nodes ls a (expand_nodes e (view_branch x).nodes)) (λ x xs. refl) c.deref-branch-items.result.now c.loop-branch.branch-index b b before after end c.loop-branch-test.true c.branch-item.is (subst (λ ns. Finds ls (asked_in_nodes ls a (expand_nodes e ns)) before after) (sym (nodes_out b)) step) f);
      inside = grind (arith, common_steps);
    }

pub visit_choose-returns-in-Some : goal.visit_choose-returns-in-Some
visit_choose-returns-in-Some t c =
    let ls = c.args.style.now.locales in
    let o = option_map (λ v. view_nodes v.items) (out-Choose c.args.choose.now).otherwise in
    c.loop-branch.invariant.told _ (last_found ls (λ bs. asked_in_branches ls c.args.around (expand_branches (macro_env c.args.style.now) (branches_of (map view_branch bs) o))) c.deref-branch-items.result.now c.loop-branch.branch-index c.loop-branch.found c.visit_all-in-Some.new.found c.loop-branch-test.false
    (rw c.in-Some.is (rw c.deref-in-Some.ensures.value at c.visit_all-in-Some.ensures)))

pub visit_choose-returns-in-None : goal.visit_choose-returns-in-None
visit_choose-returns-in-None t c =
    let ls = c.args.style.now.locales in
    let o = option_map (λ v. view_nodes v.items) (out-Choose c.args.choose.now).otherwise in
    c.loop-branch.invariant.told _ (last_found ls (λ bs. asked_in_branches ls c.args.around (expand_branches (macro_env c.args.style.now) (branches_of (map view_branch bs) o))) c.deref-branch-items.result.now c.loop-branch.branch-index c.loop-branch.found c.loop-branch.found c.loop-branch-test.false
    (rw c.in-None.is (finds_none ls c.loop-branch.found)))

pub visit_names-loop-child-init : goal.visit_names-loop-child-init
visit_names-loop-child-init t c =
    let ls = c.args.style.now.locales in
    let e = macro_env c.args.style.now in
    let a = c.args.around in
    let names = c.args.names.now in
    let original = parts_node c.parts-parts.result in
    let start = c.args.found.now in
    let before = c.ask_names.new.found in
    let sized = names_sized e names in
    rw c.deref-child-items.ensures.value record {
      told = λ end f.
          let inside = subst (λ i. Finds ls (asked_in_substitutes ls i (expand_substitutes e original (names_substitutes names))) before end) c.in_substitutes-inside.ensures f in
          let whole = finds_both ls (asked_in_names a.and_is_a_word original) (asked_in_substitutes ls (in_substitutes original a) (expand_substitutes e original (names_substitutes names))) start before end c.ask_names.ensures inside in
          subst (λ ts. Finds ls ts start end) (sym (names_asked ls a e names))
          (subst (λ n. Finds ls (asked_in_names a.and_is_a_word n ++ asked_in_substitutes ls (in_substitutes n a) (expand_substitutes e n (names_substitutes names))) start end) c.parts-parts.ensures.value whole);
      inside = omega arith;
    }

pub visit_names-loop-child-preserved : goal.visit_names-loop-child-preserved
visit_names-loop-child-preserved t c =
    let ls = c.args.style.now.locales in
    let e = macro_env c.args.style.now in
    let original = parts_node c.parts-parts.result in
    let a = c.in_substitutes-inside.result in
    record {
      told = λ end f. c.loop-child.invariant.told end (next_found ls (λ cs. asked_in_substitutes ls a (expand_substitutes e original (substitutes (map view_child cs)))) (λ x. asked_in_child ls e original a (view_child x)) (λ x xs. child_first ls e original a (view_child x) (map view_child xs)) c.deref-child-items.result.now c.loop-child.child-index c.child-item.result c.child-item.result c.loop-child.found c.visit_child.new.found end c.loop-child-test.true c.child-item.is c.visit_child.ensures f);
      inside = grind (arith, common_steps, children_sized);
    }

pub visit_names-returns : goal.visit_names-returns
visit_names-returns t c =
    let ls = c.args.style.now.locales in
    c.loop-child.invariant.told _ (last_found ls (λ cs. asked_in_substitutes ls c.in_substitutes-inside.result (expand_substitutes (macro_env c.args.style.now) (parts_node c.parts-parts.result) (substitutes (map view_child cs)))) c.deref-child-items.result.now c.loop-child.child-index c.loop-child.found c.loop-child.found c.loop-child-test.false (finds_none ls c.loop-child.found))
