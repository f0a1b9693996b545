-- Dry runs read of a state whether variables are suppressed and, under two special forms, whether a
-- date was rendered. In two states that agree on what a dry run reads it has one result. In two
-- states in which all lookups find the same, nodes show the same variables (`AreLookedUpAlike`).
use Rattle.std.proofs.Common.{◌≡◌, Bool, true, false, length, List, [], ◌∷◌, map, Option, Some, None, IfSome, refl, sym, ap, ap₂, ◌∙◌}
use Rattle.std.specs.Prelude.{◌||◌, ◌&&◌, ◌==◌, not, is_some, unwrap_or, if◌then◌else◌, option_map, ⊤}
use Rattle.lit_model.specs.Chunks.{is_white_space}
use Rattle.csl_common.specs.declared.form.LongShortForm.{LongShortForm}
use Rattle.csl_common.specs.declared.form.LongShortForm.TheVariants.{Long}
use Rattle.csl_elements.specs.declared.taxonomy.DateVariable.{DateVariable}
use Rattle.csl_elements.specs.declared.taxonomy.NameVariable.{NameVariable}
use Rattle.csl_elements.specs.declared.taxonomy.NumberOrPageVariable.{NumberOrPageVariable}
use Rattle.csl_elements.specs.declared.taxonomy.NumberOrPageVariable.TheVariants as number_or_page
use Rattle.csl_elements.specs.declared.taxonomy.Variable.{Variable}
use Rattle.csl_elements.specs.declared.taxonomy.Variable.TheVariants as variable
use Rattle.csl_elements.specs.Names.{LabelNode, NamesNode}
use Rattle.csl_elements.specs.Node.{Tests, Target, of_variable, of_term, of_value, NumberNode, ExpandedNode, expanded_text, expanded_macro, unknown_macro, expanded_number, expanded_label, expanded_date, expanded_names, shorthand, expanded_choose, expanded_group, ExpandedNodes, no_expanded_nodes, expanded_node, ExpandedBranches, no_expanded_branches, expanded_otherwise, expanded_branch, ExpandedSubstitutes, no_expanded_substitutes, expanded_substitute}
use Rattle.csl_elements.specs.Taxonomy.{variable_of}
use Rattle.csl_entry.specs.Alike.{Each}
use Rattle.csl_entry.specs.Instance.{resolve_number, resolve_page, resolve_standard, resolve_names, resolve_date}
use Rattle.csl_entry.specs.declared.citation.cite.SpecialForm.{SpecialForm}
use Rattle.csl_entry.specs.declared.citation.cite.SpecialForm.TheVariants.{VarOnly, OnlyFirstDate, OnlyYearSuffix, SuppressAuthor}
use Rattle.csl_context.specs.State.{State, is_suppressed}
use Rattle.csl_context.specs.RenderInput.{RenderInput, peek_number, peek_page, peek_standard, peek_names, peek_date}
use Rattle.csl_names.specs.NamesLists.{all_empty, peeked_lists}
use Rattle.csl_entry.specs.NumberResult.{number, page}
use Rattle.csl_nodes.specs.NumberOrPage.{peek_number_or_page}
use Rattle.csl_nodes.specs.Condition.{is_some_and, is_number, is_typed, is_typed_result, is_numeric, is_uncertain, is_present, all_if, branch_matches}
use Rattle.csl_nodes.specs.Date.{date_shows_variable, variable_info}
use Rattle.csl_nodes.specs.Usage.{info_of, no_usage_flags, no_info}
use Rattle.csl_nodes.specs.Label.{text_beside, label_by_special_form, label_info}
use Rattle.csl_nodes.specs.Number.{presence_info, shows_own, number_info}
use Rattle.csl_nodes.specs.Text.{standard_text, number_result, shows_variable, calls, resolved_variable, resolved_text, resolved_info, is_of, target_info}
use Rattle.csl_elements.specs.declared.variable_set.VariableSet.{VariableSet}
use Rattle.csl_render.specs.Names.{is_refused, names_show}
use Rattle.csl_render.specs.Plan.{DryView, asks_for_dates, asks_for_author, state_for_dry_run, AreSuppressedAlike, AreAlikeOn, HasTested}
use Rattle.csl_render.specs.Tree.{shows, any_shows, branches_show, substitute_shows}
use Rattle.csl_elements.specs.VariableSet.{Has, IsWithin}
use Rattle.csl_render.proofs.VariableSets.{each_of}

-- ---- dates

date_shown_dry : (special : Option SpecialForm) (seen : Bool) (own : Option DateVariable) (v : Variable) → date_shows_variable special (not (asks_for_dates special && seen)) own v ≡ date_shows_variable special (not seen) own v
date_shown_dry None seen own v = refl
date_shown_dry (Some (VarOnly u)) seen own v = refl
date_shown_dry (Some OnlyFirstDate) seen own v = refl
date_shown_dry (Some OnlyYearSuffix) seen own v = refl
date_shown_dry (Some SuppressAuthor) seen own v = refl

date_shown_same : (w : RenderInput) (s u : State) → (asks_for_dates w.instance.special && s.first_date_seen) ≡ (asks_for_dates w.instance.special && u.first_date_seen) → (own : Option DateVariable) (v : Variable)
    → date_shows_variable w.instance.special (not s.first_date_seen) own v ≡ date_shows_variable w.instance.special (not u.first_date_seen) own v
date_shown_same w s u marks own v =
    sym (date_shown_dry w.instance.special s.first_date_seen own v)
    ∙ ap (λ b. date_shows_variable w.instance.special (not b) own v) marks
    ∙ date_shown_dry w.instance.special u.first_date_seen own v

-- ---- one variable

module _ (w : RenderInput) (s u : State) where
  -- lookups of the variable find the same in both states
  abbrev pub Same : Variable → Type 0
  Same (variable.Standard v) = (form : LongShortForm) → peek_standard w s form v ≡ peek_standard w u form v
  Same (variable.Number v) = peek_number w s v ≡ peek_number w u v
  Same (variable.Page v) = peek_page w s v ≡ peek_page w u v
  Same (variable.Name v) = peek_names w s v ≡ peek_names w u v
  Same (variable.Date v) = peek_date w s v ≡ peek_date w u v

  -- they do if it is suppressed in both states or in none
  pub same_lookup : (v : Variable) → is_suppressed s v ≡ is_suppressed u v → Same v
  same_lookup (variable.Standard v) e = λ form. ap (λ b. if b then None else resolve_standard w.instance form v) e
  same_lookup (variable.Number v) e = ap (λ b. if b then None else resolve_number w.instance v) e
  same_lookup (variable.Page v) e = ap (λ b. if b then None else resolve_page w.instance v) e
  same_lookup (variable.Name v) e = ap (λ b. if b then [] else resolve_names w.instance v) e
  same_lookup (variable.Date v) e = ap (λ b. if b then None else resolve_date w.instance v) e

  number_or_page_same : (v : NumberOrPageVariable) → Same (variable_of v) → peek_number_or_page w s v ≡ peek_number_or_page w u v
  number_or_page_same (number_or_page.Number v) e = ap (option_map number) e
  number_or_page_same (number_or_page.Page v) e = ap (option_map page) e

  numeric_same : (v : Variable) → Same v → is_numeric w s v ≡ is_numeric w u v
  numeric_same (variable.Standard v) e = ap (is_some_and is_number) (e Long)
  numeric_same (variable.Number v) e = ap (is_some_and is_typed_result) e
  numeric_same (variable.Page v) e = ap (is_some_and is_typed) e
  numeric_same (variable.Name v) e = refl
  numeric_same (variable.Date v) e = refl

  present_same : (v : Variable) → Same v → is_present w s v ≡ is_present w u v
  present_same (variable.Standard v) e = ap (λ o. is_some_and (λ cs. not (is_white_space cs)) o) (e Long)
  present_same (variable.Number v) e = ap (λ o. is_some o) e
  present_same (variable.Page v) e = ap (λ o. is_some o) e
  present_same (variable.Name v) e = ap (λ l. not (length l == 0)) e
  present_same (variable.Date v) e = ap (λ o. is_some o) e

  uncertain_same : (v : DateVariable) → Same (variable.Date v) → is_uncertain w s v ≡ is_uncertain w u v
  uncertain_same v e = ap (λ o. is_some_and (λ d. d.approximate) o) e

  resolved_same : (form : LongShortForm) (v : Variable) → Same v → resolved_variable w s form v ≡ resolved_variable w u form v
  resolved_same form (variable.Standard v) e = ap (option_map (standard_text v)) (e form)
  resolved_same form (variable.Number v) e = ap (λ o. option_map (number_result (number_or_page.Number v)) (option_map number o)) e
  resolved_same form (variable.Page v) e = ap (λ o. option_map (number_result (number_or_page.Page v)) (option_map page o)) e
  resolved_same form (variable.Name v) e = refl
  resolved_same form (variable.Date v) e = refl

  text_same : (form : LongShortForm) (v : Variable) → Same v → resolved_text w s (of_variable v form) ≡ resolved_text w u (of_variable v form)
  text_same form v e = ap (λ o. if shows_variable w.instance.special v then o else None) (resolved_same form v e)

  -- ---- nodes that read one variable

  abbrev IsSuppressedAlike : Variable → Type 0
  IsSuppressedAlike v = is_suppressed s v ≡ is_suppressed u v

  pub variable_info_same : (form : LongShortForm) (v : Variable) → IsSuppressedAlike v → target_info w s (of_variable v form) ≡ target_info w u (of_variable v form)
  variable_info_same form v e = ap (resolved_info (calls (of_variable v form))) (text_same form v (same_lookup v e))

  pub number_info_same : (n : NumberNode) → IsSuppressedAlike (variable_of n.variable) → number_info w s n ≡ number_info w u n
  number_info_same n e = ap (λ o. presence_info (if shows_own w n then is_some o else false)) (number_or_page_same n.variable (same_lookup (variable_of n.variable) e))

  pub label_info_same : (v : NumberOrPageVariable) (l : LabelNode) → IsSuppressedAlike (variable_of v) → label_info w s v l ≡ label_info w u v l
  label_info_same v l e = ap (λ o. info_of (unwrap_or (label_by_special_form w.instance.special v) (is_some (text_beside w v l o))) no_usage_flags) (number_or_page_same v (same_lookup (variable_of v) e))

  pub date_info_same : (asks_for_dates w.instance.special && s.first_date_seen) ≡ (asks_for_dates w.instance.special && u.first_date_seen) → (o : Option DateVariable) → IfSome o (λ v. IsSuppressedAlike (variable.Date v)) → variable_info w s o ≡ variable_info w u o
  date_info_same marks None e = refl
  date_info_same marks (Some v) e = ap₂ (λ b o. if b then presence_info (is_some o) else no_info) (date_shown_same w s u marks (Some v) (variable.Date v)) (same_lookup (variable.Date v) e)

  -- ---- lists

  each_same : {A : Type 0} (P : A → Type 0) (f g : A → Bool) → ((x : A) → P x → f x ≡ g x) → (xs : List A) → Each P xs → map f xs ≡ map g xs
  each_same P f g h [] e = refl
  each_same P f g h (x ∷ xs) e = ap₂ (λ y ys. y ∷ ys) (h x e.0) (each_same P f g h xs e.1)

  -- lookups of each variable of which `P` find the same
  module _ (P : Variable → Type 0) (same : (v : Variable) → P v → Same v) where
    each_list_same : (vs : List NameVariable) → Each (λ v. P (variable.Name v)) vs → peeked_lists w s vs ≡ peeked_lists w u vs
    each_list_same [] e = refl
    each_list_same (v ∷ vs) e = ap₂ (λ l ls. (l, v) ∷ ls) (same (variable.Name v) e.0) (each_list_same vs e.1)

    each_test_same : (ts : Tests) → Each P (all_if ts.is_numeric) → Each (λ v. P (variable.Date v)) (all_if ts.is_uncertain_date) → Each P (all_if ts.variable) → branch_matches w s ts ≡ branch_matches w u ts
    unfolding branch_matches
    each_test_same ts numeric uncertain present =
        let numbers = each_same P (is_numeric w s) (is_numeric w u) (λ v e. numeric_same v (same v e)) (all_if ts.is_numeric) numeric in
        let dates = each_same (λ v. P (variable.Date v)) (is_uncertain w s) (is_uncertain w u) (λ v e. uncertain_same v (same (variable.Date v) e)) (all_if ts.is_uncertain_date) uncertain in
        let found = each_same P (is_present w s) (is_present w u) (λ v e. present_same v (same v e)) (all_if ts.variable) present in
        rw (numbers, dates, found) refl

  module _ (read : VariableSet) (alike : AreSuppressedAlike read s u) where
    pub lists_same : (vs : List NameVariable) → Each (λ v. Has read (variable.Name v)) vs → peeked_lists w s vs ≡ peeked_lists w u vs
    lists_same vs has = each_list_same (Has read) (λ v e. same_lookup v (alike v e)) vs has

    -- a branch whose tests read these variables is taken in both states or in none
    pub matches_same : (ts : Tests) → HasTested read ts → branch_matches w s ts ≡ branch_matches w u ts
    matches_same ts h = each_test_same (Has read) (λ v e. same_lookup v (alike v e)) ts h.0 h.1 h.2

-- ---- everything

-- all lookups find the same in both states, and a date was rendered in both or in none
pub record AreLookedUpAlike (w : RenderInput) (s u : State) : Type 0 where
  pub found : (v : Variable) → Same w s u v
  pub date : s.first_date_seen ≡ u.first_date_seen

module _ (w : RenderInput) (s u : State) (alike : AreLookedUpAlike w s u) where
  pub any_list_same : (vs : List NameVariable) → peeked_lists w s vs ≡ peeked_lists w u vs
  any_list_same vs = each_list_same w s u (λ v. ⊤) (λ v e. alike.found v) vs (each_of (λ v. ⊤) (λ v. tt) vs)

  any_test_same : (ts : Tests) → branch_matches w s ts ≡ branch_matches w u ts
  any_test_same ts =
      each_test_same w s u (λ v. ⊤) (λ v e. alike.found v) ts (each_of (λ v. ⊤) (λ v. tt) (all_if ts.is_numeric)) (each_of (λ v. ⊤) (λ v. tt) (all_if ts.is_uncertain_date)) (each_of (λ v. ⊤) (λ v. tt) (all_if ts.variable))

  any_text_same : (t : Target) → resolved_text w s t ≡ resolved_text w u t
  any_text_same (of_variable v form) = text_same w s u form v (alike.found v)
  any_text_same (of_term t form plural) = refl
  any_text_same (of_value bs) = refl

  mutual
    shows_same : (v : Variable) (f : ExpandedNode) → shows w s v f ≡ shows w u v f
    shows_same v (expanded_text t d) = ap (λ o. is_some o && is_of v t) (any_text_same t)
    shows_same v (expanded_macro fs d) = any_same v fs
    shows_same v unknown_macro = refl
    shows_same v (expanded_number n) = refl
    shows_same v (expanded_label x l) = refl
    shows_same v (expanded_date n) = date_shown_same w s u (ap (λ b. asks_for_dates w.instance.special && b) alike.date) n.variable v
    shows_same v (expanded_names n is) = ap₂ (λ ls b. names_show v n (all_empty ls) b) (any_list_same n.variables) (substitute_shows_same v is)
    shows_same v (shorthand written n) = ap (λ ls. names_show v written (all_empty ls) false) (any_list_same written.variables)
    shows_same v (expanded_choose cs) = branches_show_same v cs
    shows_same v (expanded_group delimiter d fs) = any_same v fs

    any_same : (v : Variable) (fs : ExpandedNodes) → any_shows w s v fs ≡ any_shows w u v fs
    any_same v no_expanded_nodes = refl
    any_same v (expanded_node f fs) = ap₂ (λ a b. a || b) (shows_same v f) (any_same v fs)

    branches_show_same : (v : Variable) (cs : ExpandedBranches) → branches_show w s v cs ≡ branches_show w u v cs
    branches_show_same v no_expanded_branches = refl
    branches_show_same v (expanded_otherwise fs) = any_same v fs
    branches_show_same v (expanded_branch ts fs cs) = ap₂ (λ b y. if b then any_shows w s v fs else y) (any_test_same ts) (branches_show_same v cs) ∙ ap (λ x. if branch_matches w u ts then x else branches_show w u v cs) (any_same v fs)

    pub substitute_shows_same : (v : Variable) (is : ExpandedSubstitutes) → substitute_shows w s v is ≡ substitute_shows w u v is
    substitute_shows_same v no_expanded_substitutes = refl
    substitute_shows_same v (expanded_substitute fs is) = any_same v fs

-- ---- names

-- a special form refuses names alike, if it does not ask for the author or the author is shown alike
pub refused_same : (special : Option SpecialForm) (n : NamesNode) (empty : Bool) (is : ExpandedSubstitutes) (a b : Bool) → (asks_for_author special ≡ true → a ≡ b) → is_refused special n empty is a ≡ is_refused special n empty is b
refused_same None n empty is a b h = refl
refused_same (Some (VarOnly v)) n empty is a b h = refl
refused_same (Some OnlyFirstDate) n empty is a b h = refl
refused_same (Some OnlyYearSuffix) n empty is a b h = refl
refused_same (Some SuppressAuthor) n empty is a b h = h refl

-- ---- the sets

-- the variable of a date that was read
pub date_read : (s u : State) (read : VariableSet) → AreSuppressedAlike read s u → (o : Option DateVariable) → IfSome o (λ v. Has read (variable.Date v)) → IfSome o (λ v. is_suppressed s (variable.Date v) ≡ is_suppressed u (variable.Date v))
date_read s u read alike None h = tt
date_read s u read alike (Some v) h = alike (variable.Date v) h

-- what is read of a set is read of a part of it
pub alike_within : (w : RenderInput) (a b : VariableSet) (d : DryView) (s : State) → IsWithin a b → AreAlikeOn w b d s → AreAlikeOn w a d s
alike_within w a b d s within h = (h.0, λ v has. h.1 v (within v has))

-- what dry runs read of a state is alike to the state
pub alike_to_itself : (whole : Bool) (w : RenderInput) (read : VariableSet) (s : State) → AreAlikeOn w read (state_for_dry_run whole w.instance.special s) s
alike_to_itself whole w read s = (refl, λ v has. refl)

pub double_not : (b : Bool) → not (not b) ≡ b
double_not true = refl
double_not false = refl
