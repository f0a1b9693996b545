-- A node has the same dry run, shown variables and output in a state for two entries that are alike on
-- all that it names and that the state does not suppress.
use Rattle.std.proofs.Common.{◌≡◌, Bool, true, false, subst, ℕ, List, [], ◌∷◌, map, Option, Some, None, refl, sym, ap, ap₂, ◌∙◌, if◌then◌else◌}
use Rattle.std.specs.Prelude.{◌||◌, ◌&&◌, not, ◌==◌, length, option_map, is_some, unwrap_or}
use Rattle.lit_model.specs.Date.{DateView}
use Rattle.lit_model.specs.Person.{PersonView}
use Rattle.lit_model.specs.Chunks.{is_white_space}
use Rattle.csl_common.specs.declared.form.LongShortForm.{LongShortForm}
use Rattle.csl_common.specs.declared.form.LongShortForm.TheVariants.{Long}
use Rattle.csl_elements.specs.declared.taxonomy.DateVariable.{DateVariable}
use Rattle.csl_elements.specs.declared.taxonomy.NameVariable.{NameVariable}
use Rattle.csl_elements.specs.declared.taxonomy.NameVariable.TheVariants.{Editor, Translator, EditorTranslator}
use Rattle.csl_elements.specs.declared.taxonomy.NumberOrPageVariable.{NumberOrPageVariable}
use Rattle.csl_elements.specs.declared.taxonomy.NumberOrPageVariable.TheVariants as number_or_page
use Rattle.csl_elements.specs.declared.taxonomy.Variable.{Variable}
use Rattle.csl_elements.specs.declared.taxonomy.Variable.TheVariants as variable
use Rattle.csl_elements.specs.declared.term.Term.{Term}
use Rattle.csl_elements.specs.declared.term.Term.TheVariants as terms
use Rattle.csl_elements.specs.declared.term.TermForm.TheVariants as term_forms
use Rattle.csl_elements.specs.Dressing.{TextDressing}
use Rattle.csl_elements.specs.NamedSet.{NamedSet, named_union}
use Rattle.csl_style.specs.Named.{the_variable, the_date, the_name, the_kind, each_of, each_if, the_number_or_page, date_if, named_in_target, named_in_tests, named_in_node, named_in_nodes, named_in_branches, named_in_substitutes}
use Rattle.csl_elements.specs.Names.{LabelNode}
use Rattle.csl_elements.specs.Node.{Target, of_variable, of_term, of_value, NumberNode, DateNode, Tests, ExpandedNode, expanded_text, expanded_macro, unknown_macro, expanded_number, expanded_label, expanded_date, expanded_names, shorthand, expanded_choose, expanded_group, ExpandedNodes, no_expanded_nodes, expanded_node, ExpandedBranches, no_expanded_branches, expanded_otherwise, expanded_branch, ExpandedSubstitutes, no_expanded_substitutes, expanded_substitute, ExpandedLayout}
use Rattle.csl_elements.specs.Taxonomy.{variable_of}
use Rattle.csl_elements.proofs.Sets.{or_left, or_right}
use Rattle.csl_elements.proofs.Variables.{name_decides}
use Rattle.std.proofs.lemmas.Bool.{false≢true}
use Rattle.std.proofs.lemmas.Slice.Eq.{slice_eq-Decides}
use Rattle.csl_tree.specs.Tokens.{Token, has_text}
use Rattle.csl_entry.specs.Answers.{Answers}
use Rattle.csl_entry.specs.declared.citation.cite.Sorting.{Sorting}
use Rattle.csl_entry.specs.NumberResult.{NumberOrPageView}
use Rattle.csl_context.specs.State.{State, Inherited, state_after_resolve, with_node_formatting}
use Rattle.csl_context.specs.RenderInput.{RenderInput, peek_names, peek_date, term_in}
use Rattle.csl_names.specs.NamesLists.{PersonLists, same_variables, may_merge, merged_lists, all_empty, each_resolved, state_after_resolve_all, peeked_lists, resolved_lists, lists_state, is_pair}
use Rattle.csl_nodes.specs.NumberOrPage.{peek_number_or_page}
use Rattle.csl_nodes.specs.Condition.{is_some_and, is_number, is_typed, is_typed_result, is_numeric, is_uncertain, is_disambiguated, is_of_kind, is_present, one_if, all_if, branch_matches}
use Rattle.csl_nodes.specs.Date.{date_shows_own, variable_info, localized_over, printed_date, date_or_key, resolved_date, variable_output}
use Rattle.csl_nodes.specs.Usage.{info_of, no_usage_flags, no_info, should_render_group, info_union, as_child_info, without_group_flag, group_info, macro_info}
use Rattle.csl_nodes.specs.Label.{is_plural, label_term, term_if, text_beside, label_text, label_info, label_box, label_output, label_by_special_form}
use Rattle.csl_nodes.specs.Number.{shows_own, presence_info, number_info, optional_sort_text, number_content, optional_number_content, number_output}
use Rattle.csl_render.specs.Pair.{with_answers}
use Rattle.csl_nodes.specs.Text.{RenderOutput, render_output, then_output, shows_variable, standard_text, number_result, ResolvedText, resolved_variable, resolved_text, calls, resolved_info, is_of, resolved_content, variable_state, target_state, text_output}
use Rattle.csl_render.specs.Names.{author, is_refused, names_show, names_info, in_substitute, suppressing_from, lists_or_substitute}
use Rattle.csl_render.specs.Tree.{is_group, info, nodes_info, branches_info, substitute_info, shows, any_shows, branches_show, substitute_shows, names_output, node_output, nodes_output, delimited_output, branches_output, output_until_text, substitute_output, delimited_child_output, macro_output, in_macro, group_output, in_group, layout_output}
use Rattle.csl_render.specs.Keeps.{Keeps}
use Rattle.csl_render.specs.Laws.{SuppressedVariablesAreSilent}
use Rattle.csl_render.specs.Render.{of_node}
use Rattle.csl_render.proofs.KeepsLeaves.{look_keeps, lists_keep}
use Rattle.csl_render.proofs.KeepsNodes.{rendering_keeps}
use Rattle.csl_render.proofs.Looks.{Free, later, kind_alike, number_look_alike, page_look_alike, number_or_page_look_alike, standard_look_alike, name_look_alike, date_look_alike}

module _ (a b : Answers) where
  -- entries that are alike on a union are alike on each of the two sets
  on_left : (s : State) (p r : NamedSet) → Free a b s (named_union p r) → Free a b s p
  unfolding named_union
  on_left s p r h q e = h q (or_left (p q) (r q) e)

  on_right : (s : State) (p r : NamedSet) → Free a b s (named_union p r) → Free a b s r
  unfolding named_union
  on_right s p r h q e = h q (or_right (p q) (r q) e)

  module _ (w : RenderInput) where
    abbrev v : RenderInput
    v = with_answers a w

    abbrev u : RenderInput
    u = with_answers b w

    -- ---- texts

    pub variable_found_alike : (s : State) (form : LongShortForm) (x : Variable) → Free a b s (the_variable x) → resolved_variable v s form x ≡ resolved_variable u s form x
    variable_found_alike s form (variable.Standard x) h = ap (option_map (standard_text x)) (standard_look_alike a b w s form x h)
    variable_found_alike s form (variable.Number x) h = ap (option_map (number_result (number_or_page.Number x))) (number_or_page_look_alike a b w s (number_or_page.Number x) h)
    variable_found_alike s form (variable.Page x) h = ap (option_map (number_result (number_or_page.Page x))) (number_or_page_look_alike a b w s (number_or_page.Page x) h)
    variable_found_alike s form (variable.Name x) h = refl
    variable_found_alike s form (variable.Date x) h = refl

    found_alike : (s : State) (t : Target) → Free a b s (named_in_target t) → resolved_text v s t ≡ resolved_text u s t
    found_alike s (of_variable x form) h = ap (λ o. if shows_variable w.instance.special x then o else None) (variable_found_alike s form x h)
    found_alike s (of_term t form plural) h = refl
    found_alike s (of_value bs) h = refl

    variable_state_alike : (x : Variable) (s : State) → variable_state v x s ≡ variable_state u x s
    variable_state_alike (variable.Standard x) s = refl
    variable_state_alike (variable.Number x) s = refl
    variable_state_alike (variable.Page x) s = refl
    variable_state_alike (variable.Name x) s = refl
    variable_state_alike (variable.Date x) s = refl

    pub target_state_alike : (t : Target) (s : State) → target_state v t s ≡ target_state u t s
    target_state_alike (of_variable x form) s = variable_state_alike x s
    target_state_alike (of_term t form plural) s = refl
    target_state_alike (of_value bs) s = refl

    pub found_tree_alike : (d : TextDressing) (inh : Inherited) (o : Option ResolvedText) → resolved_content v d inh o ≡ resolved_content u d inh o
    found_tree_alike d inh None = refl
    found_tree_alike d inh (Some f) = refl

    target_tree_alike : (t : Target) (d : TextDressing) (inh : Inherited) (s : State) → Free a b s (named_in_target t) → text_output v t d inh s ≡ text_output u t d inh s
    target_tree_alike t d inh s h = ap₂ render_output (ap (resolved_content v d inh) (found_alike s t h) ∙ found_tree_alike d inh (resolved_text u s t)) (target_state_alike t s)

    -- ---- numbers

    number_info_alike : (s : State) (n : NumberNode) → Free a b s (the_number_or_page n.variable) → number_info v s n ≡ number_info u s n
    number_info_alike s n h = ap (λ o. presence_info (if shows_own w n then is_some o else false)) (number_or_page_look_alike a b w s n.variable h)

    content_alike : (n : NumberNode) (found : NumberOrPageView) (key : Option (List ℕ)) (inh : Inherited) → number_content v n found key inh ≡ number_content u n found key inh
    content_alike n found (Some key) inh = refl
    content_alike n found None inh = refl

    pub found_content_alike : (n : NumberNode) (o : Option NumberOrPageView) (inh : Inherited) → optional_number_content v n o inh ≡ optional_number_content u n o inh
    found_content_alike n None inh = refl
    found_content_alike n (Some found) inh = content_alike n found (optional_sort_text w.instance.sorting found) inh

    number_tree_alike : (n : NumberNode) (inh : Inherited) (s : State) → Free a b s (the_number_or_page n.variable) → number_output v n inh s ≡ number_output u n inh s
    number_tree_alike n inh s h =
        let content = ap (λ o. optional_number_content v n o inh) (number_or_page_look_alike a b w s n.variable h) ∙ found_content_alike n (peek_number_or_page u s n.variable) inh in
        ap (λ (c : List Token). if shows_own w n then render_output c (state_after_resolve (variable_of n.variable) s) else render_output [] s) content

    -- ---- labels

    term_alike : (l : LabelNode) (o : Option Term) (several : Bool) → term_if v l o several ≡ term_if u l o several
    term_alike l None several = refl
    term_alike l (Some t) several = refl

    beside_alike : (x : NumberOrPageVariable) (l : LabelNode) (o : Option NumberOrPageView) → text_beside v x l o ≡ text_beside u x l o
    beside_alike x l None = refl
    beside_alike x l (Some resolved_text) = term_alike l (label_term w.instance.cite x) (is_plural l.plural x resolved_text)

    label_text_alike : (s : State) (x : NumberOrPageVariable) (l : LabelNode) → Free a b s (the_number_or_page x) → label_text v s x l ≡ label_text u s x l
    label_text_alike s x l h = ap (text_beside v x l) (number_or_page_look_alike a b w s x h) ∙ beside_alike x l (peek_number_or_page u s x)

    label_info_alike : (s : State) (x : NumberOrPageVariable) (l : LabelNode) → Free a b s (the_number_or_page x) → label_info v s x l ≡ label_info u s x l
    label_info_alike s x l h = ap (λ (o : Option (List ℕ)). info_of (unwrap_or (label_by_special_form w.instance.special x) (is_some o)) no_usage_flags) (label_text_alike s x l h)

    label_tree_alike : (x : NumberOrPageVariable) (l : LabelNode) (inh : Inherited) (s : State) → Free a b s (the_number_or_page x) → label_output v x l inh s ≡ label_output u x l inh s
    label_tree_alike x l inh s h = ap (λ (o : Option (List ℕ)). render_output (if unwrap_or (label_by_special_form w.instance.special x) (is_some o) then label_box l o inh else []) s) (label_text_alike s x l h)

    -- ---- dates

    variable_info_alike : (s : State) (o : Option DateVariable) → Free a b s (date_if o) → variable_info v s o ≡ variable_info u s o
    variable_info_alike s None h = refl
    variable_info_alike s (Some x) h = ap (λ d. if date_shows_own w s x then presence_info (is_some d) else no_info) (date_look_alike a b w s x h)

    printed_date_alike : (o : Option DateNode) (d : DateView) (inh : Inherited) (s : State) → printed_date v o d inh s ≡ printed_date u o d inh s
    printed_date_alike None d inh s = refl
    printed_date_alike (Some n) d inh s = refl

    date_or_key_alike : (n : DateNode) (o : Option Sorting) (d : DateView) (inh : Inherited) (s : State) → date_or_key v n o d inh s ≡ date_or_key u n o d inh s
    date_or_key_alike n None d inh s = printed_date_alike (localized_over w.style n n.form) d inh s
    date_or_key_alike n (Some sorting) d inh s = refl

    pub found_date_alike : (n : DateNode) (o : Option DateView) (inh : Inherited) (s : State) → resolved_date v n o inh s ≡ resolved_date u n o inh s
    found_date_alike n None inh s = refl
    found_date_alike n (Some d) inh s = date_or_key_alike n w.instance.sorting d inh s

    variable_tree_alike : (n : DateNode) (o : Option DateVariable) (inh : Inherited) (s : State) → Free a b s (date_if o) → variable_output v n o inh s ≡ variable_output u n o inh s
    variable_tree_alike n None inh s h = refl
    variable_tree_alike n (Some x) inh s h =
        let after = state_after_resolve (variable.Date x) s in
        let content = ap (λ o. resolved_date v n o inh after) (date_look_alike a b w s x h) ∙ found_date_alike n (peek_date u s x) inh after in
        ap (λ m. if date_shows_own w s x then m else render_output [] s) content

    -- ---- lists of names

    pub found_lists_alike : (s : State) (vs : List NameVariable) → Free a b s (each_of the_name vs) → peeked_lists v s vs ≡ peeked_lists u s vs
    found_lists_alike s [] h = refl
    found_lists_alike s (x ∷ vs) h = ap₂ (λ (l : List PersonView) (ls : PersonLists). (l, x) ∷ ls) (name_look_alike a b w s x (on_left s _ _ h)) (found_lists_alike s vs (on_right s _ _ h))

    each_printed_alike : (s : State) (vs : List NameVariable) → Free a b s (each_of the_name vs) → each_resolved v s vs ≡ each_resolved u s vs
    each_printed_alike s [] h = refl
    each_printed_alike s (x ∷ vs) h = ap₂ (λ (l : List PersonView) (ls : PersonLists). (l, x) ∷ ls) (name_look_alike a b w s x (on_left s _ _ h)) (each_printed_alike (state_after_resolve (variable.Name x) s) vs (later a b _ _ _ (look_keeps (variable.Name x) s) (on_right s _ _ h)))

    all_looked_alike : (s : State) (vs : List NameVariable) → state_after_resolve_all v s vs ≡ state_after_resolve_all u s vs
    all_looked_alike s [] = refl
    all_looked_alike s (x ∷ vs) = all_looked_alike (state_after_resolve (variable.Name x) s) vs

    pub lists_state_alike : (s : State) (vs : List NameVariable) → lists_state v s vs ≡ lists_state u s vs
    lists_state_alike s vs = ap (λ t. if may_merge w.style vs then state_after_resolve (variable.Name Translator) (state_after_resolve (variable.Name Editor) s) else t) (all_looked_alike s vs)

    -- the variables of lists that may merge are the editors and the translators
    module _ (s t : State) (st : Keeps s t) where
      abbrev Pair : Type 0
      Pair = (peek_names v s Editor ≡ peek_names u s Editor) × (peek_names v t Translator ≡ peek_names u t Translator)

      looks_alike : Free a b s (the_name Editor) → Free a b s (the_name Translator) → Pair
      looks_alike h k = (name_look_alike a b w s Editor h, name_look_alike a b w t Translator (later a b _ _ _ st k))

      one_of : (x y : Bool) (vs : List NameVariable) → (x ≡ true → vs ≡ Editor ∷ Translator ∷ []) → (y ≡ true → vs ≡ Translator ∷ Editor ∷ []) → (x || y) ≡ true → Free a b s (each_of the_name vs) → Pair
      one_of true y vs f g e h =
          let k : Free a b s (each_of the_name (Editor ∷ Translator ∷ [])) = subst (λ us. Free a b s (each_of the_name us)) (f refl) h in
          looks_alike (on_left s _ _ k) (on_left s _ _ (on_right s _ _ k))
      one_of false true vs f g e h =
          let k : Free a b s (each_of the_name (Translator ∷ Editor ∷ [])) = subst (λ us. Free a b s (each_of the_name us)) (g refl) h in
          looks_alike (on_left s _ _ (on_right s _ _ k)) (on_left s _ _ k)
      one_of false false vs f g e h = absurd (false≢true e)

      same_list : (xs ys : List NameVariable) → same_variables xs ys ≡ true → xs ≡ ys
      same_list xs ys e = (slice_eq-Decides name_decides xs ys (same_variables xs ys) refl).0 e

      pair_alike : (vs : List NameVariable) → is_pair vs ≡ true → Free a b s (each_of the_name vs) → Pair
      pair_alike vs e h =
          one_of (same_variables vs (Editor ∷ Translator ∷ [])) (same_variables vs (Translator ∷ Editor ∷ [])) vs (same_list vs (Editor ∷ Translator ∷ [])) (same_list vs (Translator ∷ Editor ∷ [])) e h

      -- the lists, merged if the style has the term and the variables are that pair
      merged_alike : (word pair : Bool) (vs : List NameVariable) (xs ys : PersonLists) → pair ≡ is_pair vs → xs ≡ ys → Free a b s (each_of the_name vs)
          → (if word && pair then merged_lists (peek_names v s Editor) (peek_names v t Translator) else xs) ≡ (if word && pair then merged_lists (peek_names u s Editor) (peek_names u t Translator) else ys)
      merged_alike true true vs xs ys e f h = let both = pair_alike vs (sym e) h in ap₂ merged_lists both.0 both.1
      merged_alike true false vs xs ys e f h = f
      merged_alike false true vs xs ys e f h = f
      merged_alike false false vs xs ys e f h = f

    pub printed_lists_alike : (s : State) (vs : List NameVariable) → Free a b s (each_of the_name vs) → resolved_lists v s vs ≡ resolved_lists u s vs
    printed_lists_alike s vs h = merged_alike s (state_after_resolve (variable.Name Editor) s) (look_keeps (variable.Name Editor) s) (is_some (term_in w.style (terms.Name EditorTranslator) term_forms.Long false)) (is_pair vs) vs _ _ refl (each_printed_alike s vs h) h

    -- ---- tests

    numeric_alike : (s : State) (x : Variable) → Free a b s (the_variable x) → is_numeric v s x ≡ is_numeric u s x
    numeric_alike s (variable.Standard x) h = ap (is_some_and is_number) (standard_look_alike a b w s Long x h)
    numeric_alike s (variable.Number x) h = ap (is_some_and is_typed_result) (number_look_alike a b w s x h)
    numeric_alike s (variable.Page x) h = ap (is_some_and is_typed) (page_look_alike a b w s x h)
    numeric_alike s (variable.Name x) h = refl
    numeric_alike s (variable.Date x) h = refl

    uncertain_alike : (s : State) (x : DateVariable) → Free a b s (the_date x) → is_uncertain v s x ≡ is_uncertain u s x
    uncertain_alike s x h = ap (is_some_and (λ d. d.approximate)) (date_look_alike a b w s x h)

    present_alike : (s : State) (x : Variable) → Free a b s (the_variable x) → is_present v s x ≡ is_present u s x
    present_alike s (variable.Standard x) h = ap (is_some_and (λ cs. not (is_white_space cs))) (standard_look_alike a b w s Long x h)
    present_alike s (variable.Number x) h = ap is_some (number_look_alike a b w s x h)
    present_alike s (variable.Page x) h = ap is_some (page_look_alike a b w s x h)
    present_alike s (variable.Name x) h = ap (λ l. not (length l == 0)) (name_look_alike a b w s x h)
    present_alike s (variable.Date x) h = ap is_some (date_look_alike a b w s x h)

    disambiguated_alike : (o : Option Bool) → map (is_disambiguated v) (one_if o) ≡ map (is_disambiguated u) (one_if o)
    disambiguated_alike None = refl
    disambiguated_alike (Some true) = refl
    disambiguated_alike (Some false) = refl

    -- the tests of the items of a list have equal results if each test has
    module _ {A : Type 0} (s : State) (names : A → NamedSet) (f g : A → Bool) (one : (x : A) → Free a b s (names x) → f x ≡ g x) where
      each_alike : (xs : List A) → Free a b s (each_of names xs) → map f xs ≡ map g xs
      each_alike [] h = refl
      each_alike (x ∷ xs) h = ap₂ (λ y ys. y ∷ ys) (one x (on_left s _ _ h)) (each_alike xs (on_right s _ _ h))

      each_if_alike : (o : Option (List A)) → Free a b s (each_if names o) → map f (all_if o) ≡ map g (all_if o)
      each_if_alike None h = refl
      each_if_alike (Some xs) h = each_alike xs h

    pub holds_alike : (s : State) (ts : Tests) → Free a b s (named_in_tests ts) → branch_matches v s ts ≡ branch_matches u s ts
    unfolding branch_matches
    holds_alike s ts h =
        let past_numbers = on_right s _ _ h in
        let past_dates = on_right s _ _ past_numbers in
        let numbers = each_if_alike s the_variable (is_numeric v s) (is_numeric u s) (numeric_alike s) ts.is_numeric (on_left s _ _ h) in
        let dates = each_if_alike s the_date (is_uncertain v s) (is_uncertain u s) (uncertain_alike s) ts.is_uncertain_date (on_left s _ _ past_numbers) in
        let kinds = each_if_alike s the_kind (is_of_kind v) (is_of_kind u) (kind_alike a b s) ts.type_ (on_left s _ _ past_dates) in
        let present = each_if_alike s the_variable (is_present v s) (is_present u s) (present_alike s) ts.variable (on_right s _ _ past_dates) in
        rw (disambiguated_alike ts.disambiguate, numbers, dates, kinds, present) refl

    -- ---- the shown variables

    mutual
      pub shows_alike : (s : State) (x : Variable) (f : ExpandedNode) → Free a b s (named_in_node f) → shows v s x f ≡ shows u s x f
      shows_alike s x (expanded_text t d) h = ap (λ o. is_some o && is_of x t) (found_alike s t h)
      shows_alike s x (expanded_macro fs d) h = any_shows_alike s x fs h
      shows_alike s x unknown_macro h = refl
      shows_alike s x (expanded_number n) h = refl
      shows_alike s x (expanded_label y l) h = refl
      shows_alike s x (expanded_date n) h = refl
      shows_alike s x (expanded_names n is) h =
          ap₂ (λ ls substitute. names_show x n (all_empty ls) substitute) (found_lists_alike s n.variables (on_left s _ _ h)) (substitute_shows_alike s x is (on_right s _ _ h))
      shows_alike s x (shorthand written n) h = ap (λ ls. names_show x written (all_empty ls) false) (found_lists_alike s written.variables (on_left s _ _ h))
      shows_alike s x (expanded_choose cs) h = cases_show_alike s x cs h
      shows_alike s x (expanded_group delimiter d fs) h = any_shows_alike s x fs h

      pub any_shows_alike : (s : State) (x : Variable) (fs : ExpandedNodes) → Free a b s (named_in_nodes fs) → any_shows v s x fs ≡ any_shows u s x fs
      any_shows_alike s x no_expanded_nodes h = refl
      any_shows_alike s x (expanded_node f fs) h = ap₂ (λ i j. i || j) (shows_alike s x f (on_left s _ _ h)) (any_shows_alike s x fs (on_right s _ _ h))

      cases_show_alike : (s : State) (x : Variable) (cs : ExpandedBranches) → Free a b s (named_in_branches cs) → branches_show v s x cs ≡ branches_show u s x cs
      cases_show_alike s x no_expanded_branches h = refl
      cases_show_alike s x (expanded_otherwise fs) h = any_shows_alike s x fs h
      cases_show_alike s x (expanded_branch ts fs cs) h =
          rw (holds_alike s ts (on_left s _ _ h), any_shows_alike s x fs (on_left s _ _ (on_right s _ _ h)), cases_show_alike s x cs (on_right s _ _ (on_right s _ _ h))) refl

      substitute_shows_alike : (s : State) (x : Variable) (is : ExpandedSubstitutes) → Free a b s (named_in_substitutes is) → substitute_shows v s x is ≡ substitute_shows u s x is
      substitute_shows_alike s x no_expanded_substitutes h = refl
      substitute_shows_alike s x (expanded_substitute fs is) h = any_shows_alike s x fs (on_left s _ _ h)

    -- ---- the dry run

    mutual
      pub info_alike : (s : State) (f : ExpandedNode) → Free a b s (named_in_node f) → info v s f ≡ info u s f
      info_alike s (expanded_text t d) h = ap (resolved_info (calls t)) (found_alike s t h)
      info_alike s (expanded_macro fs d) h = ap (λ i. macro_info (without_group_flag i)) (infos_alike s fs h)
      info_alike s unknown_macro h = refl
      info_alike s (expanded_number n) h = number_info_alike s n h
      info_alike s (expanded_label x l) h = label_info_alike s x l h
      info_alike s (expanded_date n) h = variable_info_alike s n.variable h
      info_alike s (expanded_names n is) h =
          let lists = found_lists_alike s n.variables (on_left s _ _ h) in
          let shown = shows_alike s author (expanded_names n is) h in
          let substituted = substitute_info_alike s is (on_right s _ _ h) in
          ap (λ ls. names_info w.instance.special n ls is (shows v s author (expanded_names n is)) (substitute_info v s is)) lists
          ∙ ap₂ (λ shown sub. names_info w.instance.special n (peeked_lists u s n.variables) is shown sub) shown substituted
      info_alike s (shorthand written n) h =
          ap₂ (λ ls shown. names_info w.instance.special written ls no_expanded_substitutes shown no_info) (found_lists_alike s written.variables (on_left s _ _ h)) (shows_alike s author (shorthand written n) h)
      info_alike s (expanded_choose cs) h = cases_info_alike s cs h
      info_alike s (expanded_group delimiter d fs) h = ap group_info (infos_alike s fs h)

      pub infos_alike : (s : State) (fs : ExpandedNodes) → Free a b s (named_in_nodes fs) → nodes_info v s fs ≡ nodes_info u s fs
      infos_alike s no_expanded_nodes h = refl
      infos_alike s (expanded_node f fs) h = ap₂ (λ i j. info_union (as_child_info (is_group f) i) j) (info_alike s f (on_left s _ _ h)) (infos_alike s fs (on_right s _ _ h))

      cases_info_alike : (s : State) (cs : ExpandedBranches) → Free a b s (named_in_branches cs) → branches_info v s cs ≡ branches_info u s cs
      cases_info_alike s no_expanded_branches h = refl
      cases_info_alike s (expanded_otherwise fs) h = ap without_group_flag (infos_alike s fs h)
      cases_info_alike s (expanded_branch ts fs cs) h =
          rw (holds_alike s ts (on_left s _ _ h), infos_alike s fs (on_left s _ _ (on_right s _ _ h)), cases_info_alike s cs (on_right s _ _ (on_right s _ _ h))) refl

      substitute_info_alike : (s : State) (is : ExpandedSubstitutes) → Free a b s (named_in_substitutes is) → substitute_info v s is ≡ substitute_info u s is
      substitute_info_alike s no_expanded_substitutes h = refl
      substitute_info_alike s (expanded_substitute fs is) h = ap without_group_flag (infos_alike s fs (on_left s _ _ h))

    -- ---- the output

    mutual
      pub tree_alike : (f : ExpandedNode) (inh : Inherited) (s : State) → Free a b s (named_in_node f) → node_output v f inh s ≡ node_output u f inh s
      tree_alike (expanded_text t d) inh s h = target_tree_alike t d inh s h
      tree_alike (expanded_macro fs d) inh s h = ap₂ (λ i m. macro_output (should_render_group (macro_info (without_group_flag i)).flags) w d inh m s) (infos_alike s fs h) (sum_of_alike fs (in_macro d inh) s h)
      tree_alike unknown_macro inh s h = refl
      tree_alike (expanded_number n) inh s h = number_tree_alike n inh s h
      tree_alike (expanded_label x l) inh s h = label_tree_alike x l inh s h
      tree_alike (expanded_date n) inh s h = variable_tree_alike n n.variable inh s h
      tree_alike (expanded_names n is) inh s h =
          let after = lists_state u s n.variables in
          let lists = resolved_lists u s n.variables in
          let substitute = suppressing_from after in
          ap₂ (λ ls t. names_output v n is inh (substitute_output v is (in_substitute n inh) (suppressing_from t)) ls t) (printed_lists_alike s n.variables (on_left s _ _ h)) (lists_state_alike s n.variables)
          ∙ ap₂ (λ shown m. lists_or_substitute w n lists (is_refused w.instance.special n (all_empty lists) is (names_show author n (all_empty lists) shown)) inh m after)
          (substitute_shows_alike after author is (later a b _ _ _ (lists_keep u n.variables s) (on_right s _ _ h))) (substitute_tree_alike is (in_substitute n inh) substitute (later a b s after _ (lists_keep u n.variables s) (on_right s _ _ h)))
      tree_alike (shorthand written n) inh s h =
          ap₂ (λ ls t. names_output w n no_expanded_substitutes inh (render_output [] (suppressing_from t)) ls t) (printed_lists_alike s n.variables (on_right s _ _ h)) (lists_state_alike s n.variables)
      tree_alike (expanded_choose cs) inh s h = cases_tree_alike cs inh s h
      tree_alike (expanded_group delimiter d fs) inh s h = ap₂ (λ i m. group_output (should_render_group i.flags) d inh m) (infos_alike s fs h) (delimited_alike fs (in_group delimiter d inh) true s h)

      pub sum_of_alike : (fs : ExpandedNodes) (inh : Inherited) (s : State) → Free a b s (named_in_nodes fs) → nodes_output v fs inh s ≡ nodes_output u fs inh s
      sum_of_alike no_expanded_nodes inh s h = refl
      sum_of_alike (expanded_node f fs) inh s h =
          let first = tree_alike f inh s (on_left s _ _ h) in
          let rest = sum_of_alike fs inh (node_output v f inh s).state (later a b _ _ _ (rendering_keeps v (of_node f) inh s) (on_right s _ _ h)) in
          ap (then_output (node_output v f inh s).content) rest ∙ ap (λ m. then_output m.content (nodes_output u fs inh m.state)) first

      delimited_alike : (fs : ExpandedNodes) (inh : Inherited) (first : Bool) (s : State) → Free a b s (named_in_nodes fs) → delimited_output v fs inh first s ≡ delimited_output u fs inh first s
      delimited_alike no_expanded_nodes inh first s h = refl
      delimited_alike (expanded_node f fs) inh first s h =
          let said = info_alike s f (on_left s _ _ h) in
          let one = tree_alike f inh s (on_left s _ _ h) in
          let behind = delimited_alike fs inh false (node_output v f inh s).state (later a b _ _ _ (rendering_keeps v (of_node f) inh s) (on_right s _ _ h)) in
          let skipped = delimited_alike fs inh first s (on_right s _ _ h) in
          ap₂ (λ m k. if (info v s f).prints then m else k) (ap (then_output (delimited_child_output first inh (node_output v f inh s)).content) behind ∙ ap (λ m. then_output (delimited_child_output first inh m).content (delimited_output u fs inh false m.state)) one) skipped
          ∙ ap (λ i. if i.prints then then_output (delimited_child_output first inh (node_output u f inh s)).content (delimited_output u fs inh false (node_output u f inh s).state) else delimited_output u fs inh first s) said

      cases_tree_alike : (cs : ExpandedBranches) (inh : Inherited) (s : State) → Free a b s (named_in_branches cs) → branches_output v cs inh s ≡ branches_output u cs inh s
      cases_tree_alike no_expanded_branches inh s h = refl
      cases_tree_alike (expanded_otherwise fs) inh s h = delimited_alike fs inh true s h
      cases_tree_alike (expanded_branch ts fs cs) inh s h =
          rw (holds_alike s ts (on_left s _ _ h), delimited_alike fs inh true s (on_left s _ _ (on_right s _ _ h)), cases_tree_alike cs inh s (on_right s _ _ (on_right s _ _ h))) refl

      substitute_tree_alike : (is : ExpandedSubstitutes) (inh : Inherited) (s : State) → Free a b s (named_in_substitutes is) → substitute_output v is inh s ≡ substitute_output u is inh s
      substitute_tree_alike no_expanded_substitutes inh s h = refl
      substitute_tree_alike (expanded_substitute fs is) inh s h = until_text_alike fs inh (render_output [] s) (on_left s _ _ h)

      until_text_alike : (fs : ExpandedNodes) (inh : Inherited) (m : RenderOutput) → Free a b m.state (named_in_nodes fs) → output_until_text v fs inh m ≡ output_until_text u fs inh m
      until_text_alike no_expanded_nodes inh m h = refl
      until_text_alike (expanded_node f fs) inh m h =
          let rest = until_text_alike fs inh (then_output m.content (node_output v f inh m.state)) (later a b _ _ _ (rendering_keeps v (of_node f) inh m.state) (on_right m.state _ _ h)) in
          let first = tree_alike f inh m.state (on_left m.state _ _ h) in
          ap (λ k. if has_text m.content then m else k) (rest ∙ ap (λ t. output_until_text u fs inh (then_output m.content t)) first)

    pub layout_alike : (l : ExpandedLayout) (inh : Inherited) (s : State) → Free a b s (named_in_nodes l.elements) → layout_output v l inh s ≡ layout_output u l inh s
    layout_alike l inh s h = sum_of_alike l.elements (record (with_node_formatting l.formatting inh) { delimiter = l.delimiter }) s h

pub suppressed_are_silent : SuppressedVariablesAreSilent
suppressed_are_silent w l a b inherited s h = layout_alike a b w l inherited s h
