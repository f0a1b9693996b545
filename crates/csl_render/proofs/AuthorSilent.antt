-- A cite that suppresses its author does not tell it: a node has the same dry run, the same answer to
-- whether it shows the author, and the same output, for two entries that differ only in their authors.
-- The recursions are those of `AlikeNodes`. Names of the author are refused, whoever the authors are.
use Rattle.std.proofs.Common.{◌≡◌, Bool, true, false, List, [], ◌∷◌, Option, Some, None, refl, sym, ap, ap₂, subst, ◌∙◌, if◌then◌else◌}
use Rattle.std.specs.Prelude.{◌||◌, ◌&&◌, ◌≢◌}
use Rattle.std.proofs.lemmas.Bool.{false≢true}
use denote.Enum.Bare.{sameb}
use Rattle.lit_model.specs.Person.{PersonView}
use Rattle.csl_elements.specs.contracts.taxonomy.NameVariable.{the_type}
use Rattle.csl_elements.specs.declared.taxonomy.DateVariable.{DateVariable}
use Rattle.csl_elements.specs.declared.taxonomy.NameVariable.{NameVariable}
use Rattle.csl_elements.specs.declared.taxonomy.NameVariable.TheVariants.{Author, Editor, Translator}
use Rattle.csl_elements.specs.declared.taxonomy.NumberOrPageVariable.{NumberOrPageVariable}
use Rattle.csl_elements.specs.declared.taxonomy.NumberOrPageVariable.TheVariants as number_or_page
use Rattle.csl_elements.specs.declared.taxonomy.StandardVariable.{StandardVariable}
use Rattle.csl_elements.specs.declared.taxonomy.Variable.TheVariants as variable
use Rattle.csl_elements.specs.NamedSet.{NamedItem, a_variable, a_kind, NamedSet, named_union}
use Rattle.csl_elements.specs.Names.{NamesNode}
use Rattle.csl_elements.specs.Node.{of_variable, of_term, of_value, ExpandedNode, expanded_text, expanded_macro, unknown_macro, expanded_number, expanded_label, expanded_date, expanded_names, shorthand, expanded_choose, expanded_group, ExpandedNodes, no_expanded_nodes, expanded_node, ExpandedBranches, no_expanded_branches, expanded_otherwise, expanded_branch, ExpandedSubstitutes, no_expanded_substitutes, expanded_substitute, ExpandedLayout}
use Rattle.csl_elements.proofs.Variables.{name_decides}
use Rattle.csl_style.specs.Named.{the_variable, the_number_or_page, date_if, named_in_nodes}
use Rattle.csl_entry.specs.Alike.{SameNamedAnswers}
use Rattle.csl_entry.specs.Answers.{Answers}
use Rattle.csl_entry.specs.declared.citation.cite.SpecialForm.{SpecialForm}
use Rattle.csl_entry.specs.declared.citation.cite.SpecialForm.TheVariants.{SuppressAuthor}
use Rattle.csl_tree.specs.Tokens.{has_text}
use Rattle.csl_context.specs.State.{State, Inherited, is_suppressed, state_after_resolve, with_node_formatting}
use Rattle.csl_context.specs.RenderInput.{RenderInput, peek_names}
use Rattle.csl_names.specs.NamesForms.{writes_no_name}
use Rattle.csl_names.specs.NamesLists.{PersonLists, may_merge, merged_lists, all_empty, each_resolved, peeked_lists, resolved_lists, lists_state}
use Rattle.csl_nodes.specs.Usage.{Info, no_info, should_render_group, info_union, as_child_info, without_group_flag, group_info, macro_info}
use Rattle.csl_nodes.specs.Text.{RenderOutput, render_output, then_output}
use Rattle.csl_render.specs.Cites.{AgreeButForAuthors}
use Rattle.csl_render.specs.Names.{author, has_variable, names_or_substitute_info, in_substitute, suppressing_from, boxed_substitute, lists_output}
use Rattle.csl_render.specs.Pair.{with_answers}
use Rattle.csl_style.specs.Tested.{tested_in_node, tested_in_nodes, tested_in_branches, tested_in_substitutes}
use Rattle.csl_render.specs.Tree.{is_group, info, nodes_info, branches_info, substitute_info, shows, any_shows, branches_show, substitute_shows, names_output, node_output, nodes_output, delimited_output, branches_output, output_until_text, substitute_output, delimited_child_output, macro_output, in_macro, group_output, in_group, layout_output}
use Rattle.csl_render.proofs.Looks.{Free}
use Rattle.csl_render.proofs.AlikeNodes.{lists_state_alike, holds_alike, shows_alike, info_alike, tree_alike, layout_alike}

-- ---- booleans

none_left : (x y : Bool) → (x || y) ≡ false → x ≡ false
none_left true y h = h
none_left false y h = refl

none_right : (x y : Bool) → (x || y) ≡ false → y ≡ false
none_right true y h = absurd (false≢true (sym h))
none_right false y h = h

-- two disjunctions with the same first part
same_or : (first x y : Bool) → (first ≡ false → x ≡ y) → (first || x) ≡ (first || y)
same_or true x y f = refl
same_or false x y f = f refl

-- two choices that both begin with the same test, and with the same result if it holds
same_if : {A : Type 0} (first x y : Bool) (r a b : A) → (first ≡ false → (if x then r else a) ≡ (if y then r else b)) → (if first || x then r else a) ≡ (if first || y then r else b)
same_if true x y r a b f = refl
same_if false x y r a b f = f refl

-- ---- sets without the author

absent_left : (p r : NamedSet) (q : NamedItem) → named_union p r q ≡ false → p q ≡ false
unfolding named_union
absent_left p r q h = none_left (p q) (r q) h

absent_right : (p r : NamedSet) (q : NamedItem) → named_union p r q ≡ false → r q ≡ false
unfolding named_union
absent_right p r q h = none_right (p q) (r q) h

number_apart : (x : NumberOrPageVariable) → the_number_or_page x (a_variable author) ≡ false
unfolding the_variable
number_apart (number_or_page.Number x) = refl
number_apart (number_or_page.Page x) = refl

standard_apart : (x : StandardVariable) → the_variable (variable.Standard x) (a_variable author) ≡ false
unfolding the_variable
standard_apart x = refl

date_apart : (o : Option DateVariable) → date_if o (a_variable author) ≡ false
unfolding the_variable
date_apart None = refl
date_apart (Some x) = refl

-- the input under the form that suppresses the author
abbrev suppressing_author : RenderInput → RenderInput
suppressing_author w = record w { instance = record w.instance { special = Some SuppressAuthor } }

-- the answers with other authors
abbrev with_authors : List PersonView → Answers → Answers
with_authors persons a = record a { names = λ y. if sameb the_type y Author then persons else a.names y }

module _ (a : Answers) (persons : List PersonView) where
  abbrev other : Answers
  other = with_authors persons a

  other_names : (y : NameVariable) (is_author : Bool) → is_author ≡ false → a.names y ≡ (if is_author then persons else a.names y)
  other_names y true e = absurd (false≢true (sym e))
  other_names y false e = refl

  -- the author is not in a set that has `y`, so `y` is another name
  is_other : (names : NamedSet) (y : NameVariable) (is_author : Bool) → (is_author ≡ true → y ≡ Author) → names (a_variable author) ≡ false → names (a_variable (variable.Name y)) ≡ true → is_author ≡ false
  is_other names y true same absent h = absurd (false≢true (sym absent ∙ ap (λ z. names (a_variable (variable.Name z))) (sym (same refl)) ∙ h))
  is_other names y false same absent h = refl

  -- both answer alike on a set without the author
  apart : (names : NamedSet) → names (a_variable author) ≡ false → SameNamedAnswers names a other
  apart names absent (a_variable (variable.Number x)) h = refl
  apart names absent (a_variable (variable.Page x)) h = refl
  apart names absent (a_variable (variable.Standard x)) h = λ form. refl
  apart names absent (a_variable (variable.Date x)) h = refl
  apart names absent (a_variable (variable.Name y)) h = other_names y (sameb the_type y Author) (is_other names y (sameb the_type y Author) (name_decides y Author).0 absent h)
  apart names absent (a_kind k) h = refl

  apart_in : (s : State) (names : NamedSet) → names (a_variable author) ≡ false → Free a other s names
  apart_in s names absent q h free = apart names absent q h

  module _ (w : RenderInput) where
    abbrev v : RenderInput
    v = with_answers a (suppressing_author w)

    abbrev u : RenderInput
    u = with_answers other (suppressing_author w)

    -- ---- lists of names without the author

    persons_same : (s : State) (y : NameVariable) → sameb the_type y Author ≡ false → peek_names v s y ≡ peek_names u s y
    persons_same s y e = ap (λ l. if is_suppressed s (variable.Name y) then [] else l) (other_names y (sameb the_type y Author) e)

    peeked_same : (s : State) (ys : List NameVariable) → has_variable Author ys ≡ false → peeked_lists v s ys ≡ peeked_lists u s ys
    peeked_same s [] h = refl
    peeked_same s (y ∷ ys) h = ap₂ (λ (l : List PersonView) (ls : PersonLists). (l, y) ∷ ls) (persons_same s y (none_left _ _ h)) (peeked_same s ys (none_right (sameb the_type y Author) _ h))

    each_same : (s : State) (ys : List NameVariable) → has_variable Author ys ≡ false → each_resolved v s ys ≡ each_resolved u s ys
    each_same s [] h = refl
    each_same s (y ∷ ys) h = ap₂ (λ (l : List PersonView) (ls : PersonLists). (l, y) ∷ ls) (persons_same s y (none_left _ _ h)) (each_same (state_after_resolve (variable.Name y) s) ys (none_right (sameb the_type y Author) _ h))

    resolved_same : (s : State) (ys : List NameVariable) → has_variable Author ys ≡ false → resolved_lists v s ys ≡ resolved_lists u s ys
    resolved_same s ys h =
        ap (λ (ls : PersonLists). if may_merge w.style ys then merged_lists (peek_names v s Editor) (peek_names v (state_after_resolve (variable.Name Editor) s) Translator) else ls) (each_same s ys h)

    -- ---- names

    names_show_same : (s : State) (n : NamesNode) (is : ExpandedSubstitutes) → substitute_shows v s author is ≡ substitute_shows u s author is → shows v s author (expanded_names n is) ≡ shows u s author (expanded_names n is)
    names_show_same s n is substitute =
        same_or (has_variable Author n.variables) (all_empty (peeked_lists v s n.variables) && substitute_shows v s author is) (all_empty (peeked_lists u s n.variables) && substitute_shows u s author is)
        (λ e. ap₂ (λ (ls : PersonLists) (shown : Bool). all_empty ls && shown) (peeked_same s n.variables e) substitute)

    -- the dry run of names that have `is` as substitutes, with the dry run of these
    names_info_same : (s : State) (n : NamesNode) (shown told : Bool) (sub other : Info) → shown ≡ told → sub ≡ other
        → (if has_variable Author n.variables || (all_empty (peeked_lists v s n.variables) && shown) then no_info else names_or_substitute_info (writes_no_name n (peeked_lists v s n.variables)) sub)
        ≡ (if has_variable Author n.variables || (all_empty (peeked_lists u s n.variables) && told) then no_info else names_or_substitute_info (writes_no_name n (peeked_lists u s n.variables)) other)
    names_info_same s n shown told sub other e f =
        same_if (has_variable Author n.variables) (all_empty (peeked_lists v s n.variables) && shown) (all_empty (peeked_lists u s n.variables) && told) no_info
        (names_or_substitute_info (writes_no_name n (peeked_lists v s n.variables)) sub) (names_or_substitute_info (writes_no_name n (peeked_lists u s n.variables)) other)
        (λ h. ap (λ (ls : PersonLists). if all_empty ls && shown then no_info else names_or_substitute_info (writes_no_name n ls) sub) (peeked_same s n.variables h)
        ∙ ap₂ (λ (b : Bool) (i : Info). if all_empty (peeked_lists u s n.variables) && b then no_info else names_or_substitute_info (writes_no_name n (peeked_lists u s n.variables)) i) e f)

    -- the output of names, from the state after their lookups
    names_output_same : (s t : State) (n : NamesNode) (inh : Inherited) (shown told : Bool) (sub other : RenderOutput) → shown ≡ told → sub ≡ other
        → (if has_variable Author n.variables || (all_empty (resolved_lists v s n.variables) && shown) then render_output [] t else if all_empty (resolved_lists v s n.variables) then boxed_substitute n (resolved_lists v s n.variables) sub t else lists_output v n (resolved_lists v s n.variables) inh t)
        ≡ (if has_variable Author n.variables || (all_empty (resolved_lists u s n.variables) && told) then render_output [] t else if all_empty (resolved_lists u s n.variables) then boxed_substitute n (resolved_lists u s n.variables) other t else lists_output u n (resolved_lists u s n.variables) inh t)
    names_output_same s t n inh shown told sub other e f =
        same_if (has_variable Author n.variables) (all_empty (resolved_lists v s n.variables) && shown) (all_empty (resolved_lists u s n.variables) && told) (render_output [] t)
        (if all_empty (resolved_lists v s n.variables) then boxed_substitute n (resolved_lists v s n.variables) sub t else lists_output v n (resolved_lists v s n.variables) inh t)
        (if all_empty (resolved_lists u s n.variables) then boxed_substitute n (resolved_lists u s n.variables) other t else lists_output u n (resolved_lists u s n.variables) inh t)
        (λ h. ap (λ (ls : PersonLists). if all_empty ls && shown then render_output [] t else if all_empty ls then boxed_substitute n ls sub t else lists_output v n ls inh t) (resolved_same s n.variables h)
        ∙ ap₂ (λ (b : Bool) (m : RenderOutput). if all_empty (resolved_lists u s n.variables) && b then render_output [] t else if all_empty (resolved_lists u s n.variables) then boxed_substitute n (resolved_lists u s n.variables) m t else lists_output u n (resolved_lists u s n.variables) inh t) e f)

    -- ---- whether a node shows the author

    mutual
      shows_same : (s : State) (f : ExpandedNode) → tested_in_node f (a_variable author) ≡ false → shows v s author f ≡ shows u s author f
      shows_same s (expanded_text (of_variable (variable.Standard x) form) d) h = shows_alike a other (suppressing_author w) s author (expanded_text (of_variable (variable.Standard x) form) d) (apart_in s (the_variable (variable.Standard x)) (standard_apart x))
      shows_same s (expanded_text (of_variable (variable.Number x) form) d) h = shows_alike a other (suppressing_author w) s author (expanded_text (of_variable (variable.Number x) form) d) (apart_in s _ (number_apart (number_or_page.Number x)))
      shows_same s (expanded_text (of_variable (variable.Page x) form) d) h = shows_alike a other (suppressing_author w) s author (expanded_text (of_variable (variable.Page x) form) d) (apart_in s _ (number_apart (number_or_page.Page x)))
      shows_same s (expanded_text (of_variable (variable.Name x) form) d) h = refl
      shows_same s (expanded_text (of_variable (variable.Date x) form) d) h = refl
      shows_same s (expanded_text (of_term t form plural) d) h = refl
      shows_same s (expanded_text (of_value bs) d) h = refl
      shows_same s (expanded_macro fs d) h = any_shows_same s fs h
      shows_same s unknown_macro h = refl
      shows_same s (expanded_number n) h = refl
      shows_same s (expanded_label y l) h = refl
      shows_same s (expanded_date n) h = refl
      shows_same s (expanded_names n is) h = names_show_same s n is (substitute_shows_same s is h)
      shows_same s (shorthand written n) h = names_show_same s written no_expanded_substitutes refl
      shows_same s (expanded_choose cs) h = branches_show_same s cs h
      shows_same s (expanded_group delimiter d fs) h = any_shows_same s fs h

      any_shows_same : (s : State) (fs : ExpandedNodes) → tested_in_nodes fs (a_variable author) ≡ false → any_shows v s author fs ≡ any_shows u s author fs
      any_shows_same s no_expanded_nodes h = refl
      any_shows_same s (expanded_node f fs) h = ap₂ (λ i j. i || j) (shows_same s f (absent_left _ _ _ h)) (any_shows_same s fs (absent_right _ _ _ h))

      branches_show_same : (s : State) (cs : ExpandedBranches) → tested_in_branches cs (a_variable author) ≡ false → branches_show v s author cs ≡ branches_show u s author cs
      branches_show_same s no_expanded_branches h = refl
      branches_show_same s (expanded_otherwise fs) h = any_shows_same s fs h
      branches_show_same s (expanded_branch ts fs cs) h =
          rw (holds_alike a other (suppressing_author w) s ts (apart_in s _ (absent_left _ _ _ h)), any_shows_same s fs (absent_left _ _ _ (absent_right _ _ _ h)), branches_show_same s cs (absent_right _ _ _ (absent_right _ _ _ h))) refl

      substitute_shows_same : (s : State) (is : ExpandedSubstitutes) → tested_in_substitutes is (a_variable author) ≡ false → substitute_shows v s author is ≡ substitute_shows u s author is
      substitute_shows_same s no_expanded_substitutes h = refl
      substitute_shows_same s (expanded_substitute fs is) h = any_shows_same s fs (absent_left _ _ _ h)

    -- ---- the dry run

    mutual
      info_same : (s : State) (f : ExpandedNode) → tested_in_node f (a_variable author) ≡ false → info v s f ≡ info u s f
      info_same s (expanded_text (of_variable (variable.Standard x) form) d) h = info_alike a other (suppressing_author w) s (expanded_text (of_variable (variable.Standard x) form) d) (apart_in s _ (standard_apart x))
      info_same s (expanded_text (of_variable (variable.Number x) form) d) h = info_alike a other (suppressing_author w) s (expanded_text (of_variable (variable.Number x) form) d) (apart_in s _ (number_apart (number_or_page.Number x)))
      info_same s (expanded_text (of_variable (variable.Page x) form) d) h = info_alike a other (suppressing_author w) s (expanded_text (of_variable (variable.Page x) form) d) (apart_in s _ (number_apart (number_or_page.Page x)))
      info_same s (expanded_text (of_variable (variable.Name x) form) d) h = refl
      info_same s (expanded_text (of_variable (variable.Date x) form) d) h = refl
      info_same s (expanded_text (of_term t form plural) d) h = refl
      info_same s (expanded_text (of_value bs) d) h = refl
      info_same s (expanded_macro fs d) h = ap (λ i. macro_info (without_group_flag i)) (infos_same s fs h)
      info_same s unknown_macro h = refl
      info_same s (expanded_number n) h = info_alike a other (suppressing_author w) s (expanded_number n) (apart_in s _ (number_apart n.variable))
      info_same s (expanded_label x l) h = info_alike a other (suppressing_author w) s (expanded_label x l) (apart_in s _ (number_apart x))
      info_same s (expanded_date n) h = info_alike a other (suppressing_author w) s (expanded_date n) (apart_in s _ (date_apart n.variable))
      info_same s (expanded_names n is) h =
          names_info_same s n (substitute_shows v s author is) (substitute_shows u s author is) (substitute_info v s is) (substitute_info u s is) (substitute_shows_same s is h) (substitute_info_same s is h)
      info_same s (shorthand written n) h = names_info_same s written false false no_info no_info refl refl
      info_same s (expanded_choose cs) h = branches_info_same s cs h
      info_same s (expanded_group delimiter d fs) h = ap group_info (infos_same s fs h)

      infos_same : (s : State) (fs : ExpandedNodes) → tested_in_nodes fs (a_variable author) ≡ false → nodes_info v s fs ≡ nodes_info u s fs
      infos_same s no_expanded_nodes h = refl
      infos_same s (expanded_node f fs) h = ap₂ (λ i j. info_union (as_child_info (is_group f) i) j) (info_same s f (absent_left _ _ _ h)) (infos_same s fs (absent_right _ _ _ h))

      branches_info_same : (s : State) (cs : ExpandedBranches) → tested_in_branches cs (a_variable author) ≡ false → branches_info v s cs ≡ branches_info u s cs
      branches_info_same s no_expanded_branches h = refl
      branches_info_same s (expanded_otherwise fs) h = ap without_group_flag (infos_same s fs h)
      branches_info_same s (expanded_branch ts fs cs) h =
          rw (holds_alike a other (suppressing_author w) s ts (apart_in s _ (absent_left _ _ _ h)), infos_same s fs (absent_left _ _ _ (absent_right _ _ _ h)), branches_info_same s cs (absent_right _ _ _ (absent_right _ _ _ h))) refl

      substitute_info_same : (s : State) (is : ExpandedSubstitutes) → tested_in_substitutes is (a_variable author) ≡ false → substitute_info v s is ≡ substitute_info u s is
      substitute_info_same s no_expanded_substitutes h = refl
      substitute_info_same s (expanded_substitute fs is) h = ap without_group_flag (infos_same s fs (absent_left _ _ _ h))

    -- ---- the output

    mutual
      tree_same : (f : ExpandedNode) (inh : Inherited) (s : State) → tested_in_node f (a_variable author) ≡ false → node_output v f inh s ≡ node_output u f inh s
      tree_same (expanded_text (of_variable (variable.Standard x) form) d) inh s h = tree_alike a other (suppressing_author w) (expanded_text (of_variable (variable.Standard x) form) d) inh s (apart_in s _ (standard_apart x))
      tree_same (expanded_text (of_variable (variable.Number x) form) d) inh s h = tree_alike a other (suppressing_author w) (expanded_text (of_variable (variable.Number x) form) d) inh s (apart_in s _ (number_apart (number_or_page.Number x)))
      tree_same (expanded_text (of_variable (variable.Page x) form) d) inh s h = tree_alike a other (suppressing_author w) (expanded_text (of_variable (variable.Page x) form) d) inh s (apart_in s _ (number_apart (number_or_page.Page x)))
      tree_same (expanded_text (of_variable (variable.Name x) form) d) inh s h = refl
      tree_same (expanded_text (of_variable (variable.Date x) form) d) inh s h = refl
      tree_same (expanded_text (of_term t form plural) d) inh s h = tree_alike a other (suppressing_author w) (expanded_text (of_term t form plural) d) inh s (apart_in s _ refl)
      tree_same (expanded_text (of_value bs) d) inh s h = refl
      tree_same (expanded_macro fs d) inh s h = ap₂ (λ i m. macro_output (should_render_group (macro_info (without_group_flag i)).flags) (suppressing_author w) d inh m s) (infos_same s fs h) (sum_same fs (in_macro d inh) s h)
      tree_same unknown_macro inh s h = refl
      tree_same (expanded_number n) inh s h = tree_alike a other (suppressing_author w) (expanded_number n) inh s (apart_in s _ (number_apart n.variable))
      tree_same (expanded_label x l) inh s h = tree_alike a other (suppressing_author w) (expanded_label x l) inh s (apart_in s _ (number_apart x))
      tree_same (expanded_date n) inh s h = tree_alike a other (suppressing_author w) (expanded_date n) inh s (apart_in s _ (date_apart n.variable))
      tree_same (expanded_names n is) inh s h =
          let t = lists_state u s n.variables in
          ap (λ (t : State). names_output v n is inh (substitute_output v is (in_substitute n inh) (suppressing_from t)) (resolved_lists v s n.variables) t) (lists_state_alike a other (suppressing_author w) s n.variables)
          ∙ names_output_same s t n inh (substitute_shows v t author is) (substitute_shows u t author is) (substitute_output v is (in_substitute n inh) (suppressing_from t)) (substitute_output u is (in_substitute n inh) (suppressing_from t))
          (substitute_shows_same t is h) (substitute_tree_same is (in_substitute n inh) (suppressing_from t) h)
      tree_same (shorthand written n) inh s h =
          let t = lists_state u s n.variables in
          ap (λ (t : State). names_output v n no_expanded_substitutes inh (render_output [] (suppressing_from t)) (resolved_lists v s n.variables) t) (lists_state_alike a other (suppressing_author w) s n.variables)
          ∙ names_output_same s t n inh false false (render_output [] (suppressing_from t)) (render_output [] (suppressing_from t)) refl refl
      tree_same (expanded_choose cs) inh s h = branches_tree_same cs inh s h
      tree_same (expanded_group delimiter d fs) inh s h = ap₂ (λ i m. group_output (should_render_group i.flags) d inh m) (infos_same s fs h) (delimited_same fs (in_group delimiter d inh) true s h)

      sum_same : (fs : ExpandedNodes) (inh : Inherited) (s : State) → tested_in_nodes fs (a_variable author) ≡ false → nodes_output v fs inh s ≡ nodes_output u fs inh s
      sum_same no_expanded_nodes inh s h = refl
      sum_same (expanded_node f fs) inh s h =
          let first = tree_same f inh s (absent_left _ _ _ h) in
          let rest = sum_same fs inh (node_output v f inh s).state (absent_right _ _ _ h) in
          ap (then_output (node_output v f inh s).content) rest ∙ ap (λ m. then_output m.content (nodes_output u fs inh m.state)) first

      delimited_same : (fs : ExpandedNodes) (inh : Inherited) (first : Bool) (s : State) → tested_in_nodes fs (a_variable author) ≡ false → delimited_output v fs inh first s ≡ delimited_output u fs inh first s
      delimited_same no_expanded_nodes inh first s h = refl
      delimited_same (expanded_node f fs) inh first s h =
          let said = info_same s f (absent_left _ _ _ h) in
          let one = tree_same f inh s (absent_left _ _ _ h) in
          let behind = delimited_same fs inh false (node_output v f inh s).state (absent_right _ _ _ h) in
          let skipped = delimited_same fs inh first s (absent_right _ _ _ h) in
          ap₂ (λ m k. if (info v s f).prints then m else k) (ap (then_output (delimited_child_output first inh (node_output v f inh s)).content) behind ∙ ap (λ m. then_output (delimited_child_output first inh m).content (delimited_output u fs inh false m.state)) one) skipped
          ∙ ap (λ i. if i.prints then then_output (delimited_child_output first inh (node_output u f inh s)).content (delimited_output u fs inh false (node_output u f inh s).state) else delimited_output u fs inh first s) said

      branches_tree_same : (cs : ExpandedBranches) (inh : Inherited) (s : State) → tested_in_branches cs (a_variable author) ≡ false → branches_output v cs inh s ≡ branches_output u cs inh s
      branches_tree_same no_expanded_branches inh s h = refl
      branches_tree_same (expanded_otherwise fs) inh s h = delimited_same fs inh true s h
      branches_tree_same (expanded_branch ts fs cs) inh s h =
          rw (holds_alike a other (suppressing_author w) s ts (apart_in s _ (absent_left _ _ _ h)), delimited_same fs inh true s (absent_left _ _ _ (absent_right _ _ _ h)), branches_tree_same cs inh s (absent_right _ _ _ (absent_right _ _ _ h))) refl

      substitute_tree_same : (is : ExpandedSubstitutes) (inh : Inherited) (s : State) → tested_in_substitutes is (a_variable author) ≡ false → substitute_output v is inh s ≡ substitute_output u is inh s
      substitute_tree_same no_expanded_substitutes inh s h = refl
      substitute_tree_same (expanded_substitute fs is) inh s h = until_text_same fs inh (render_output [] s) (absent_left _ _ _ h)

      until_text_same : (fs : ExpandedNodes) (inh : Inherited) (m : RenderOutput) → tested_in_nodes fs (a_variable author) ≡ false → output_until_text v fs inh m ≡ output_until_text u fs inh m
      until_text_same no_expanded_nodes inh m h = refl
      until_text_same (expanded_node f fs) inh m h =
          let rest = until_text_same fs inh (then_output m.content (node_output v f inh m.state)) (absent_right _ _ _ h) in
          let first = tree_same f inh m.state (absent_left _ _ _ h) in
          ap (λ k. if has_text m.content then m else k) (rest ∙ ap (λ t. output_until_text u fs inh (then_output m.content t)) first)

-- ---- entries that differ in more than the author, where nothing names it

module _ (l : ExpandedLayout) (a b : Answers) (alike : AgreeButForAuthors (named_in_nodes l.elements) a b) where
  named_as : (y : NameVariable) (is_author : Bool) → (is_author ≡ true → y ≡ Author) → (is_author ≡ false → a.names y ≡ b.names y) → a.names y ≡ (if is_author then a.names Author else b.names y)
  named_as y true same apart_from = ap a.names (same refl)
  named_as y false same apart_from = apart_from refl

  is_apart : (y : NameVariable) → sameb the_type y Author ≡ false → a_variable (variable.Name y) ≢ a_variable author
  is_apart y e = λ is. let same : y ≡ Author = cc in absurd (false≢true (sym e ∙ (name_decides y Author).1 same))

  -- alike on all that is named, once the second has the authors of the first
  alike_with : SameNamedAnswers (named_in_nodes l.elements) a (with_authors (a.names Author) b)
  alike_with (a_variable (variable.Number x)) h = alike (a_variable (variable.Number x)) h (λ is. cc)
  alike_with (a_variable (variable.Page x)) h = alike (a_variable (variable.Page x)) h (λ is. cc)
  alike_with (a_variable (variable.Standard x)) h = alike (a_variable (variable.Standard x)) h (λ is. cc)
  alike_with (a_variable (variable.Date x)) h = alike (a_variable (variable.Date x)) h (λ is. cc)
  alike_with (a_variable (variable.Name y)) h = named_as y (sameb the_type y Author) (name_decides y Author).0 (λ e. alike (a_variable (variable.Name y)) h (is_apart y e))
  alike_with (a_kind k) h = alike (a_kind k) h (λ is. cc)

  pub author_silent : (w : RenderInput) → w.instance.special ≡ Some SuppressAuthor → tested_in_nodes l.elements (a_variable author) ≡ false → (inh : Inherited) (s : State) → layout_output (with_answers a w) l inh s ≡ layout_output (with_answers b w) l inh s
  author_silent w special tested inh s =
      let under : w ≡ suppressing_author w = ap (λ (o : Option SpecialForm). record w { instance = record w.instance { special = o } }) special in
      layout_alike a (with_authors (a.names Author) b) w l inh s (λ q h free. alike_with q h)
      ∙ subst (λ (z : RenderInput). layout_output (with_answers (with_authors (a.names Author) b) z) l inh s ≡ layout_output (with_answers b z) l inh s) (sym under)
      (sym (sum_same b (a.names Author) w l.elements (record (with_node_formatting l.formatting inh) { delimiter = l.delimiter }) s tested))
