-- A cite that shows one variable alone tells no other: a node has the same dry run and the same output
-- for two entries that answer alike on that variable and on what the node tells beside it. The
-- recursions are those of `AlikeNodes`. Texts, numbers and dates of another variable are not looked up,
-- and names that neither have the variable nor have names of it in their substitute are refused.
use Rattle.std.proofs.Common.{◌≡◌, Bool, true, false, List, [], Option, Some, None, refl, sym, ap, ap₂, subst, ◌∙◌, if◌then◌else◌}
use Rattle.std.specs.Prelude.{◌||◌, ◌&&◌, not, is_some}
use Rattle.std.proofs.lemmas.Bool.{false≢true}
use Rattle.csl_elements.specs.declared.taxonomy.DateVariable.{DateVariable}
use Rattle.csl_elements.specs.declared.taxonomy.NumberOrPageVariable.{NumberOrPageVariable}
use Rattle.csl_elements.specs.declared.taxonomy.NumberOrPageVariable.TheVariants as number_or_page
use Rattle.csl_elements.specs.declared.taxonomy.Variable.{Variable}
use Rattle.csl_elements.specs.declared.taxonomy.Variable.TheVariants as variable
use Rattle.csl_elements.specs.Dressing.{TextDressing}
use Rattle.csl_elements.specs.NamedSet.{NamedSet, named_union}
use Rattle.csl_elements.specs.Names.{NamesNode}
use Rattle.csl_elements.specs.Node.{Target, of_variable, of_term, of_value, NumberNode, DateNode, ExpandedNode, expanded_text, expanded_macro, unknown_macro, expanded_number, expanded_label, expanded_date, expanded_names, shorthand, expanded_choose, expanded_group, ExpandedNodes, no_expanded_nodes, expanded_node, ExpandedBranches, no_expanded_branches, expanded_otherwise, expanded_branch, ExpandedSubstitutes, no_expanded_substitutes, expanded_substitute}
use Rattle.csl_elements.specs.Taxonomy.{variable_of}
use Rattle.csl_elements.proofs.Sets.{or_left, or_right}
use Rattle.csl_elements.proofs.Variables.{variable_decides}
use Rattle.csl_style.specs.Named.{the_variable, the_number_or_page, date_if, named_in_names, named_in_tests}
use Rattle.csl_entry.specs.Alike.{SameNamedAnswers}
use Rattle.csl_entry.specs.Answers.{Answers}
use Rattle.csl_entry.specs.declared.citation.cite.SpecialForm.{SpecialForm}
use Rattle.csl_entry.specs.declared.citation.cite.SpecialForm.TheVariants.{VarOnly}
use Rattle.csl_tree.specs.Tokens.{Token, has_text}
use Rattle.csl_context.specs.State.{State, Inherited, state_after_resolve, with_node_formatting}
use Rattle.csl_context.specs.RenderInput.{RenderInput, peek_date}
use Rattle.csl_names.specs.NamesForms.{writes_no_name}
use Rattle.csl_names.specs.NamesLists.{PersonLists, all_empty, peeked_lists, resolved_lists, lists_state}
use Rattle.csl_nodes.specs.NumberOrPage.{peek_number_or_page}
use Rattle.csl_nodes.specs.Date.{is_own, date_shows_own, variable_info, resolved_date, variable_output}
use Rattle.csl_nodes.specs.Number.{shows_own, presence_info, number_info, optional_number_content, number_output}
use Rattle.csl_nodes.specs.Usage.{Info, no_info, should_render_group, info_union, as_child_info, without_group_flag, group_info, macro_info}
use Rattle.csl_nodes.specs.Text.{RenderOutput, render_output, then_output, same_variable, resolved_variable, resolved_text, resolved_info, calls, resolved_content, text_output}
use Rattle.csl_render.specs.Laws.{OneVariableTellsNoOther}
use Rattle.csl_style.specs.NamesOf.{has_alone}
use Rattle.csl_style.specs.Told.{names_if, names_told, told_in_node, told_in_nodes, told_in_branches, told_in_substitutes}
use Rattle.csl_render.specs.Names.{has_variable, substitute_has_names_of, refuses_alone, names_or_substitute_info, names_info, in_substitute, suppressing_from, lists_or_substitute}
use Rattle.csl_render.specs.Pair.{with_answers}
use Rattle.csl_render.specs.Tree.{is_group, info, nodes_info, branches_info, substitute_info, names_output, node_output, nodes_output, delimited_output, branches_output, output_until_text, substitute_output, delimited_child_output, macro_output, in_macro, group_output, in_group, layout_output}
use Rattle.csl_render.proofs.Looks.{Free, number_or_page_look_alike, date_look_alike}
use Rattle.csl_render.proofs.AlikeNodes.{variable_found_alike, found_tree_alike, target_state_alike, found_content_alike, found_date_alike, found_lists_alike, printed_lists_alike, lists_state_alike, holds_alike, info_alike, tree_alike}

-- ---- booleans

-- two choices with the same result where the first part is taken
if_taken : {A : Type 0} (b : Bool) (x y n : A) → (b ≡ true → x ≡ y) → (if b then x else n) ≡ (if b then y else n)
if_taken true x y n f = f refl
if_taken false x y n f = refl

both_second : (x y : Bool) → (x && y) ≡ true → y ≡ true
both_second true y h = h
both_second false y h = absurd (false≢true h)

none_told : (own substitute empty : Bool) → (own || substitute) ≡ false → not (own || (empty && substitute)) ≡ true
none_told true substitute empty h = absurd (false≢true (sym h))
none_told false true empty h = absurd (false≢true (sym h))
none_told false false true h = refl
none_told false false false h = refl

-- names that tell nothing are refused, with or without persons
refused_else : (only : Variable) (n : NamesNode) (empty : Bool) (is : ExpandedSubstitutes) → has_alone only n is ≡ false → refuses_alone only n empty is ≡ true
refused_else (variable.Standard x) n empty is h = refl
refused_else (variable.Number x) n empty is h = refl
refused_else (variable.Page x) n empty is h = refl
refused_else (variable.Name x) n empty is h = none_told (has_variable x n.variables) (substitute_has_names_of x is) empty h
refused_else (variable.Date x) n empty is h = refl

-- the input of a cite that shows one variable alone
abbrev showing : Variable → RenderInput → RenderInput
showing only w = record w { instance = record w.instance { special = Some (VarOnly only) } }

module _ (a b : Answers) where
  -- entries that are alike on a union are alike on each of the two sets
  on_left : (p r : NamedSet) → SameNamedAnswers (named_union p r) a b → SameNamedAnswers p a b
  unfolding named_union
  on_left p r h q e = h q (or_left (p q) (r q) e)

  on_right : (p r : NamedSet) → SameNamedAnswers (named_union p r) a b → SameNamedAnswers r a b
  unfolding named_union
  on_right p r h q e = h q (or_right (p q) (r q) e)

  alike_in : (s : State) (p : NamedSet) → SameNamedAnswers p a b → Free a b s p
  alike_in s p h q e free = h q e

  -- names that tell something tell their own variables
  lists_told : (only : Variable) (n : NamesNode) (is : ExpandedSubstitutes) → has_alone only n is ≡ true → SameNamedAnswers (names_told only n is) a b → SameNamedAnswers (named_in_names n) a b
  lists_told only n is e h q k = h q (ap (λ (c : Bool). names_if c n q) e ∙ k)

  module _ (only : Variable) (own : SameNamedAnswers (the_variable only) a b) where
    own_variable : (x : Variable) → same_variable only x ≡ true → SameNamedAnswers (the_variable x) a b
    own_variable x e = subst (λ (z : Variable). SameNamedAnswers (the_variable z) a b) ((variable_decides only x).0 e) own

    own_number : (x : NumberOrPageVariable) → same_variable only (variable_of x) ≡ true → SameNamedAnswers (the_number_or_page x) a b
    own_number (number_or_page.Number x) e = own_variable (variable.Number x) e
    own_number (number_or_page.Page x) e = own_variable (variable.Page x) e

    own_date : (x : DateVariable) → same_variable (variable.Date x) only ≡ true → SameNamedAnswers (date_if (Some x)) a b
    own_date x e = subst (λ (z : Variable). SameNamedAnswers (the_variable z) a b) (sym ((variable_decides (variable.Date x) only).0 e)) own

    module _ (under : RenderInput) where
      abbrev w : RenderInput
      w = showing only under

      abbrev v : RenderInput
      v = with_answers a w

      abbrev u : RenderInput
      u = with_answers b w

      -- ---- texts, numbers and dates

      text_same : (s : State) (t : Target) → resolved_text v s t ≡ resolved_text u s t
      text_same s (of_variable x form) = if_taken (same_variable only x) (resolved_variable v s form x) (resolved_variable u s form x) None (λ e. variable_found_alike a b w s form x (alike_in s (the_variable x) (own_variable x e)))
      text_same s (of_term t form plural) = refl
      text_same s (of_value bs) = refl

      text_output_same : (t : Target) (d : TextDressing) (inh : Inherited) (s : State) → text_output v t d inh s ≡ text_output u t d inh s
      text_output_same t d inh s = ap₂ render_output (ap (resolved_content v d inh) (text_same s t) ∙ found_tree_alike a b w d inh (resolved_text u s t)) (target_state_alike a b w t s)

      is_own_number : (n : NumberNode) → shows_own w n ≡ true → SameNamedAnswers (the_number_or_page n.variable) a b
      is_own_number n e = own_number n.variable (both_second (same_variable (variable_of n.variable) (variable_of n.variable)) (same_variable only (variable_of n.variable)) e)

      number_info_same : (s : State) (n : NumberNode) → number_info v s n ≡ number_info u s n
      number_info_same s n =
          ap presence_info (if_taken (shows_own w n) (is_some (peek_number_or_page v s n.variable)) (is_some (peek_number_or_page u s n.variable)) false (λ e. ap is_some (number_or_page_look_alike a b w s n.variable (alike_in s (the_number_or_page n.variable) (is_own_number n e)))))

      number_output_same : (n : NumberNode) (inh : Inherited) (s : State) → number_output v n inh s ≡ number_output u n inh s
      number_output_same n inh s =
          let after = state_after_resolve (variable_of n.variable) s in
          if_taken (shows_own w n) (render_output (optional_number_content v n (peek_number_or_page v s n.variable) inh) after) (render_output (optional_number_content u n (peek_number_or_page u s n.variable) inh) after) (render_output [] s)
          (λ e. ap (λ (c : List Token). render_output c after) (ap (λ o. optional_number_content v n o inh) (number_or_page_look_alike a b w s n.variable (alike_in s (the_number_or_page n.variable) (is_own_number n e))) ∙ found_content_alike a b w n (peek_number_or_page u s n.variable) inh))

      is_own_date : (s : State) (x : DateVariable) → date_shows_own w s x ≡ true → SameNamedAnswers (date_if (Some x)) a b
      is_own_date s x e = own_date x (both_second (is_own (Some x) (variable.Date x)) (is_own (Some x) only) e)

      date_info_same : (s : State) (o : Option DateVariable) → variable_info v s o ≡ variable_info u s o
      date_info_same s None = refl
      date_info_same s (Some x) =
          if_taken (date_shows_own w s x) (presence_info (is_some (peek_date v s x))) (presence_info (is_some (peek_date u s x))) no_info
          (λ e. ap (λ d. presence_info (is_some d)) (date_look_alike a b w s x (alike_in s (the_variable (variable.Date x)) (is_own_date s x e))))

      date_output_same : (n : DateNode) (o : Option DateVariable) (inh : Inherited) (s : State) → variable_output v n o inh s ≡ variable_output u n o inh s
      date_output_same n None inh s = refl
      date_output_same n (Some x) inh s =
          let after = state_after_resolve (variable.Date x) s in
          if_taken (date_shows_own w s x) (resolved_date v n (peek_date v s x) inh after) (resolved_date u n (peek_date u s x) inh after) (render_output [] s)
          (λ e. ap (λ o. resolved_date v n o inh after) (date_look_alike a b w s x (alike_in s (the_variable (variable.Date x)) (is_own_date s x e))) ∙ found_date_alike a b w n (peek_date u s x) inh after)

      -- ---- names

      -- the dry run of names with `is` as substitutes, whose dry run is `sub`
      names_info_same : (s : State) (n : NamesNode) (is : ExpandedSubstitutes) (shown told : Bool) (sub other : Info) (alone : Bool) → has_alone only n is ≡ alone → SameNamedAnswers (names_told only n is) a b → sub ≡ other
          → names_info (Some (VarOnly only)) n (peeked_lists v s n.variables) is shown sub ≡ names_info (Some (VarOnly only)) n (peeked_lists u s n.variables) is told other
      names_info_same s n is shown told sub other true e h f =
          ap₂ (λ (ls : PersonLists) (i : Info). if refuses_alone only n (all_empty ls) is then no_info else names_or_substitute_info (writes_no_name n ls) i) (found_lists_alike a b w s n.variables (alike_in s (named_in_names n) (lists_told only n is e h))) f
      names_info_same s n is shown told sub other false e h f =
          ap (λ (r : Bool). if r then no_info else names_or_substitute_info (writes_no_name n (peeked_lists v s n.variables)) sub) (refused_else only n (all_empty (peeked_lists v s n.variables)) is e)
          ∙ sym (ap (λ (r : Bool). if r then no_info else names_or_substitute_info (writes_no_name n (peeked_lists u s n.variables)) other) (refused_else only n (all_empty (peeked_lists u s n.variables)) is e))

      -- the output of names, from the state after their lookups
      names_output_same : (s t : State) (n : NamesNode) (inh : Inherited) (is : ExpandedSubstitutes) (sub other : RenderOutput) (alone : Bool) → has_alone only n is ≡ alone → SameNamedAnswers (names_told only n is) a b → sub ≡ other
          → names_output v n is inh sub (resolved_lists v s n.variables) t ≡ names_output u n is inh other (resolved_lists u s n.variables) t
      names_output_same s t n inh is sub other true e h f =
          ap₂ (λ (ls : PersonLists) (m : RenderOutput). lists_or_substitute w n ls (refuses_alone only n (all_empty ls) is) inh m t) (printed_lists_alike a b w s n.variables (alike_in s (named_in_names n) (lists_told only n is e h))) f
      names_output_same s t n inh is sub other false e h f =
          ap (λ (r : Bool). lists_or_substitute w n (resolved_lists v s n.variables) r inh sub t) (refused_else only n (all_empty (resolved_lists v s n.variables)) is e)
          ∙ sym (ap (λ (r : Bool). lists_or_substitute w n (resolved_lists u s n.variables) r inh other t) (refused_else only n (all_empty (resolved_lists u s n.variables)) is e))

      -- ---- the dry run

      mutual
        info_same : (s : State) (f : ExpandedNode) → SameNamedAnswers (told_in_node only f) a b → info v s f ≡ info u s f
        info_same s (expanded_text t d) h = ap (resolved_info (calls t)) (text_same s t)
        info_same s (expanded_macro fs d) h = ap (λ i. macro_info (without_group_flag i)) (infos_same s fs h)
        info_same s unknown_macro h = refl
        info_same s (expanded_number n) h = number_info_same s n
        info_same s (expanded_label x l) h = info_alike a b w s (expanded_label x l) (alike_in s (the_number_or_page x) h)
        info_same s (expanded_date n) h = date_info_same s n.variable
        info_same s (expanded_names n is) h =
            names_info_same s n is false false (substitute_info v s is) (substitute_info u s is) (has_alone only n is) refl (on_left (names_told only n is) (told_in_substitutes only is) h) (substitute_info_same s is (on_right (names_told only n is) (told_in_substitutes only is) h))
        info_same s (shorthand written n) h =
            names_info_same s written no_expanded_substitutes false false no_info no_info (has_alone only written no_expanded_substitutes) refl (on_left (names_told only written no_expanded_substitutes) (names_told only n no_expanded_substitutes) h) refl
        info_same s (expanded_choose cs) h = branches_info_same s cs h
        info_same s (expanded_group delimiter d fs) h = ap group_info (infos_same s fs h)

        infos_same : (s : State) (fs : ExpandedNodes) → SameNamedAnswers (told_in_nodes only fs) a b → nodes_info v s fs ≡ nodes_info u s fs
        infos_same s no_expanded_nodes h = refl
        infos_same s (expanded_node f fs) h = ap₂ (λ i j. info_union (as_child_info (is_group f) i) j) (info_same s f (on_left _ _ h)) (infos_same s fs (on_right _ _ h))

        branches_info_same : (s : State) (cs : ExpandedBranches) → SameNamedAnswers (told_in_branches only cs) a b → branches_info v s cs ≡ branches_info u s cs
        branches_info_same s no_expanded_branches h = refl
        branches_info_same s (expanded_otherwise fs) h = ap without_group_flag (infos_same s fs h)
        branches_info_same s (expanded_branch ts fs cs) h =
            rw (holds_alike a b w s ts (alike_in s (named_in_tests ts) (on_left _ _ h)), infos_same s fs (on_left _ _ (on_right _ _ h)), branches_info_same s cs (on_right _ _ (on_right _ _ h))) refl

        substitute_info_same : (s : State) (is : ExpandedSubstitutes) → SameNamedAnswers (told_in_substitutes only is) a b → substitute_info v s is ≡ substitute_info u s is
        substitute_info_same s no_expanded_substitutes h = refl
        substitute_info_same s (expanded_substitute fs is) h = ap without_group_flag (infos_same s fs (on_left _ _ h))

      -- ---- the output

      mutual
        tree_same : (f : ExpandedNode) (inh : Inherited) (s : State) → SameNamedAnswers (told_in_node only f) a b → node_output v f inh s ≡ node_output u f inh s
        tree_same (expanded_text t d) inh s h = text_output_same t d inh s
        tree_same (expanded_macro fs d) inh s h = ap₂ (λ i m. macro_output (should_render_group (macro_info (without_group_flag i)).flags) w d inh m s) (infos_same s fs h) (sum_same fs (in_macro d inh) s h)
        tree_same unknown_macro inh s h = refl
        tree_same (expanded_number n) inh s h = number_output_same n inh s
        tree_same (expanded_label x l) inh s h = tree_alike a b w (expanded_label x l) inh s (alike_in s (the_number_or_page x) h)
        tree_same (expanded_date n) inh s h = date_output_same n n.variable inh s
        tree_same (expanded_names n is) inh s h =
            let t = lists_state u s n.variables in
            ap (λ (t : State). names_output v n is inh (substitute_output v is (in_substitute n inh) (suppressing_from t)) (resolved_lists v s n.variables) t) (lists_state_alike a b w s n.variables)
            ∙ names_output_same s t n inh is (substitute_output v is (in_substitute n inh) (suppressing_from t)) (substitute_output u is (in_substitute n inh) (suppressing_from t)) (has_alone only n is) refl
            (on_left (names_told only n is) (told_in_substitutes only is) h) (substitute_tree_same is (in_substitute n inh) (suppressing_from t) (on_right (names_told only n is) (told_in_substitutes only is) h))
        tree_same (shorthand written n) inh s h =
            let t = lists_state u s n.variables in
            ap (λ (t : State). names_output v n no_expanded_substitutes inh (render_output [] (suppressing_from t)) (resolved_lists v s n.variables) t) (lists_state_alike a b w s n.variables)
            ∙ names_output_same s t n inh no_expanded_substitutes (render_output [] (suppressing_from t)) (render_output [] (suppressing_from t)) (has_alone only n no_expanded_substitutes) refl
            (on_right (names_told only written no_expanded_substitutes) (names_told only n no_expanded_substitutes) h) refl
        tree_same (expanded_choose cs) inh s h = branches_tree_same cs inh s h
        tree_same (expanded_group delimiter d fs) inh s h = ap₂ (λ i m. group_output (should_render_group i.flags) d inh m) (ap group_info (infos_same s fs h)) (delimited_same fs (in_group delimiter d inh) true s h)

        sum_same : (fs : ExpandedNodes) (inh : Inherited) (s : State) → SameNamedAnswers (told_in_nodes only fs) a b → nodes_output v fs inh s ≡ nodes_output u fs inh s
        sum_same no_expanded_nodes inh s h = refl
        sum_same (expanded_node f fs) inh s h =
            let first = tree_same f inh s (on_left _ _ h) in
            let rest = sum_same fs inh (node_output v f inh s).state (on_right _ _ h) in
            ap (then_output (node_output v f inh s).content) rest ∙ ap (λ m. then_output m.content (nodes_output u fs inh m.state)) first

        delimited_same : (fs : ExpandedNodes) (inh : Inherited) (first : Bool) (s : State) → SameNamedAnswers (told_in_nodes only fs) a b → delimited_output v fs inh first s ≡ delimited_output u fs inh first s
        delimited_same no_expanded_nodes inh first s h = refl
        delimited_same (expanded_node f fs) inh first s h =
            let said = info_same s f (on_left _ _ h) in
            let one = tree_same f inh s (on_left _ _ h) in
            let behind = delimited_same fs inh false (node_output v f inh s).state (on_right _ _ h) in
            let skipped = delimited_same fs inh first s (on_right _ _ h) in
            ap₂ (λ m k. if (info v s f).prints then m else k) (ap (then_output (delimited_child_output first inh (node_output v f inh s)).content) behind ∙ ap (λ m. then_output (delimited_child_output first inh m).content (delimited_output u fs inh false m.state)) one) skipped
            ∙ ap (λ i. if i.prints then then_output (delimited_child_output first inh (node_output u f inh s)).content (delimited_output u fs inh false (node_output u f inh s).state) else delimited_output u fs inh first s) said

        branches_tree_same : (cs : ExpandedBranches) (inh : Inherited) (s : State) → SameNamedAnswers (told_in_branches only cs) a b → branches_output v cs inh s ≡ branches_output u cs inh s
        branches_tree_same no_expanded_branches inh s h = refl
        branches_tree_same (expanded_otherwise fs) inh s h = delimited_same fs inh true s h
        branches_tree_same (expanded_branch ts fs cs) inh s h =
            rw (holds_alike a b w s ts (alike_in s (named_in_tests ts) (on_left _ _ h)), delimited_same fs inh true s (on_left _ _ (on_right _ _ h)), branches_tree_same cs inh s (on_right _ _ (on_right _ _ h))) refl

        substitute_tree_same : (is : ExpandedSubstitutes) (inh : Inherited) (s : State) → SameNamedAnswers (told_in_substitutes only is) a b → substitute_output v is inh s ≡ substitute_output u is inh s
        substitute_tree_same no_expanded_substitutes inh s h = refl
        substitute_tree_same (expanded_substitute fs is) inh s h = until_text_same fs inh (render_output [] s) (on_left _ _ h)

        until_text_same : (fs : ExpandedNodes) (inh : Inherited) (m : RenderOutput) → SameNamedAnswers (told_in_nodes only fs) a b → output_until_text v fs inh m ≡ output_until_text u fs inh m
        until_text_same no_expanded_nodes inh m h = refl
        until_text_same (expanded_node f fs) inh m h =
            let rest = until_text_same fs inh (then_output m.content (node_output v f inh m.state)) (on_right _ _ h) in
            let first = tree_same f inh m.state (on_left _ _ h) in
            ap (λ k. if has_text m.content then m else k) (rest ∙ ap (λ t. output_until_text u fs inh (then_output m.content t)) first)

pub one_variable_alone : OneVariableTellsNoOther
one_variable_alone w l only a b special h inh s =
    let shows_one : w ≡ showing only w = ap (λ (o : Option SpecialForm). record w { instance = record w.instance { special = o } }) special in
    subst (λ (z : RenderInput). layout_output (with_answers a z) l inh s ≡ layout_output (with_answers b z) l inh s) (sym shows_one)
    (sum_same a b only (on_left a b (the_variable only) (told_in_nodes only l.elements) h) w l.elements (record (with_node_formatting l.formatting inh) { delimiter = l.delimiter }) s (on_right a b (the_variable only) (told_in_nodes only l.elements) h))
