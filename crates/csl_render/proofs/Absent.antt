-- Names without persons look up variables that have none. If such a lookup suppresses its variable,
-- lookups find the same as before. So names that are refused because they show the author by the
-- state before the lookups for their lists are refused by the state after them, and no others.
use Rattle.std.proofs.Common.{◌≡◌, Bool, true, false, List, [], ◌∷◌, refl, sym, ap, subst, ◌∙◌}
use Rattle.std.specs.Prelude.{◌||◌, ◌&&◌, is_some, if◌then◌else◌}
use Rattle.std.proofs.lemmas.Bool.{false≢true, and_parts}
use Rattle.std.proofs.lemmas.Slice.Eq.{slice_eq-Decides}
use Rattle.lit_model.specs.Person.{PersonView}
use Rattle.lit_model.specs.SamePerson.{same_persons}
use Rattle.csl_elements.specs.contracts.taxonomy.VariablePartialEq.TheImpl.{eq-value as eq_variable}
use Rattle.csl_elements.specs.declared.taxonomy.NameVariable.{NameVariable}
use Rattle.csl_elements.specs.declared.taxonomy.NameVariable.TheVariants.{Author, Editor, Translator, EditorTranslator}
use Rattle.csl_elements.specs.declared.taxonomy.Variable.{Variable}
use Rattle.csl_elements.specs.declared.taxonomy.Variable.TheVariants as variable
use Rattle.csl_elements.specs.declared.term.Term.TheVariants as terms
use Rattle.csl_elements.specs.declared.term.TermForm.TheVariants as term_forms
use Rattle.csl_elements.specs.Names.{NamesNode}
use Rattle.csl_elements.specs.Node.{ExpandedSubstitutes, expanded_names}
use Rattle.csl_elements.specs.VariableSet.{with_variable}
use Rattle.csl_elements.proofs.Variables.{name_decides, variable_decides}
use Rattle.csl_entry.specs.Instance.{resolve_names}
use Rattle.csl_context.specs.State.{State, is_suppressed, state_after_resolve}
use Rattle.csl_context.specs.RenderInput.{RenderInput, peek_names, term_in}
use Rattle.csl_names.specs.NamesLists.{PersonLists, has_none, all_empty, same_variables, is_pair, may_merge, merged_lists, peeked_lists, each_resolved, state_after_resolve_all, resolved_lists, lists_state}
use Rattle.csl_render.specs.Names.{author, has_variable, is_refused, names_show}
use Rattle.csl_render.specs.Plan.{TellsAuthor}
use Rattle.csl_render.specs.Tree.{shows, substitute_shows, refused_in}
use Rattle.csl_render.proofs.KeepsLeaves.{look_keeps}
use Rattle.csl_render.proofs.Reading.{Same, same_lookup, AreLookedUpAlike, any_list_same, substitute_shows_same, refused_same}

-- ---- one lookup

-- another variable is in the set exactly if it is in the set with this one
still_in : (b : Bool) (u v : Variable) (set : Variable → Bool) → eq_variable.it v u ≡ false → set v ≡ (if b then with_variable u set else set) v
unfolding with_variable
still_in true u v set other = ap (λ b. b || set v) (sym other)
still_in false u v set other = refl

-- another variable is suppressed after the lookup exactly if it was before
other_kept : (s : State) (v x : Variable) → eq_variable.it x v ≡ false → is_suppressed s x ≡ is_suppressed (state_after_resolve v s) x
other_kept s v x other = still_in s.suppressing v x s.suppressed other

same_name : (x v : NameVariable) → eq_variable.it (variable.Name x) (variable.Name v) ≡ true → x ≡ v
same_name x v h = let same : variable.Name x ≡ variable.Name v = (variable_decides (variable.Name x) (variable.Name v)).0 h in cc

still_none : (before after : Bool) (persons : List PersonView) → (before ≡ true → after ≡ true) → (if before then [] else persons) ≡ [] → (if before then [] else persons) ≡ (if after then [] else persons)
still_none true after persons kept none = ap (λ b. if b then [] else persons) (sym (kept refl))
still_none false true persons kept none = none
still_none false false persons kept none = refl

empty_is : (persons : List PersonView) → has_none persons ≡ true → persons ≡ []
empty_is [] h = refl
empty_is (p ∷ ps) h = absurd (false≢true h)

module _ (w : RenderInput) where
  module _ (s : State) (v : NameVariable) (none : peek_names w s v ≡ []) where
    abbrev after : State
    after = state_after_resolve (variable.Name v) s

    names_found : (x : NameVariable) (same : Bool) → eq_variable.it (variable.Name x) (variable.Name v) ≡ same → peek_names w s x ≡ peek_names w after x
    names_found x true e =
        let is = same_name x v e in
        let kept = (look_keeps (variable.Name v) s).suppressed (variable.Name v) in
        subst (λ y. peek_names w s y ≡ peek_names w after y) (sym is) (still_none (is_suppressed s (variable.Name v)) (is_suppressed after (variable.Name v)) (resolve_names w.instance v) kept none)
    names_found x false e = same_lookup w s after (variable.Name x) (other_kept s (variable.Name v) (variable.Name x) e)

    found_after : (x : Variable) → Same w s after x
    found_after (variable.Standard x) = same_lookup w s after (variable.Standard x) (other_kept s (variable.Name v) (variable.Standard x) refl)
    found_after (variable.Number x) = same_lookup w s after (variable.Number x) (other_kept s (variable.Name v) (variable.Number x) refl)
    found_after (variable.Page x) = same_lookup w s after (variable.Page x) (other_kept s (variable.Name v) (variable.Page x) refl)
    found_after (variable.Name x) = names_found x (eq_variable.it (variable.Name x) (variable.Name v)) refl
    found_after (variable.Date x) = same_lookup w s after (variable.Date x) (other_kept s (variable.Name v) (variable.Date x) refl)

    -- a lookup that finds no persons
    alike_after : AreLookedUpAlike w s after
    alike_after = record { found = found_after; date = refl }

  found_through : (s t u : State) (v : Variable) → Same w s t v → Same w t u v → Same w s u v
  found_through s t u (variable.Standard v) a b = λ form. a form ∙ b form
  found_through s t u (variable.Number v) a b = a ∙ b
  found_through s t u (variable.Page v) a b = a ∙ b
  found_through s t u (variable.Name v) a b = a ∙ b
  found_through s t u (variable.Date v) a b = a ∙ b

  alike_through : (s t u : State) → AreLookedUpAlike w s t → AreLookedUpAlike w t u → AreLookedUpAlike w s u
  alike_through s t u a b = record { found = λ v. found_through s t u v (a.found v) (b.found v); date = a.date ∙ b.date }

  alike_itself : (s : State) → AreLookedUpAlike w s s
  alike_itself s = record { found = λ v. same_lookup w s s v refl; date = refl }

  -- ---- the lookups for lists

  alike_after_all : (vs : List NameVariable) (s : State) → all_empty (each_resolved w s vs) ≡ true → AreLookedUpAlike w s (state_after_resolve_all w s vs)
  alike_after_all [] s e = alike_itself s
  alike_after_all (v ∷ vs) s e =
      let t = state_after_resolve (variable.Name v) s in
      let parts = and_parts (has_none (peek_names w s v)) (all_empty (each_resolved w t vs)) e in
      alike_through s t (state_after_resolve_all w t vs) (alike_after s v (empty_is (peek_names w s v) parts.0)) (alike_after_all vs t parts.1)

  by_first : (a b c : Bool) → (a ≡ true → b ≡ c) → (a && b) ≡ (a && c)
  by_first true b c f = f refl
  by_first false b c f = refl

  -- a dry run finds persons exactly if the lookups for printing do
  none_of_each : (vs : List NameVariable) (s : State) → all_empty (peeked_lists w s vs) ≡ all_empty (each_resolved w s vs)
  none_of_each [] s = refl
  none_of_each (v ∷ vs) s =
      let t = state_after_resolve (variable.Name v) s in
      by_first (has_none (peek_names w s v)) (all_empty (peeked_lists w s vs)) (all_empty (each_resolved w t vs))
      (λ e. ap (λ (ls : PersonLists). all_empty ls) (any_list_same w s t (alike_after s v (empty_is (peek_names w s v) e)) vs) ∙ none_of_each vs t)

  -- ---- editors and translators

  some_of_two : (e t : PersonView) (es ts : List PersonView) (merge : Bool) → all_empty (if merge then (e ∷ es, EditorTranslator) ∷ [] else (e ∷ es, Editor) ∷ (t ∷ ts, Translator) ∷ []) ≡ false
  some_of_two e t es ts true = refl
  some_of_two e t es ts false = refl

  none_of_two : (es ts : List PersonView) → all_empty (merged_lists es ts) ≡ (has_none es && has_none ts)
  none_of_two [] [] = refl
  none_of_two [] (t ∷ ts) = refl
  none_of_two (e ∷ es) [] = refl
  none_of_two (e ∷ es) (t ∷ ts) = some_of_two e t es ts (same_persons (e ∷ es) (t ∷ ts))

  module _ (s : State) where
    abbrev between : State
    between = state_after_resolve (variable.Name Editor) s

    abbrev merged : PersonLists
    merged = merged_lists (peek_names w s Editor) (peek_names w between Translator)

    both_none : (a b : Bool) → (a && (b && true)) ≡ (a && b)
    both_none true true = refl
    both_none true false = refl
    both_none false b = refl

    swapped_none : (a b : Bool) → (b && (a && true)) ≡ (a && b)
    swapped_none true true = refl
    swapped_none true false = refl
    swapped_none false true = refl
    swapped_none false false = refl

    none_of_merged : (has_none (peek_names w s Editor) && has_none (peek_names w s Translator)) ≡ all_empty merged
    none_of_merged =
        by_first (has_none (peek_names w s Editor)) (has_none (peek_names w s Translator)) (has_none (peek_names w between Translator))
        (λ e. ap has_none ((alike_after s Editor (empty_is (peek_names w s Editor) e)).found (variable.Name Translator)))
        ∙ sym (none_of_two (peek_names w s Editor) (peek_names w between Translator))

    none_of_pair : (x y : Bool) (vs : List NameVariable) → (x ≡ true → vs ≡ Editor ∷ Translator ∷ []) → (y ≡ true → vs ≡ Translator ∷ Editor ∷ []) → (x || y) ≡ true → all_empty (peeked_lists w s vs) ≡ all_empty merged
    none_of_pair true y vs f g e = ap (λ us. all_empty (peeked_lists w s us)) (f refl) ∙ both_none (has_none (peek_names w s Editor)) (has_none (peek_names w s Translator)) ∙ none_of_merged
    none_of_pair false true vs f g e = ap (λ us. all_empty (peeked_lists w s us)) (g refl) ∙ swapped_none (has_none (peek_names w s Editor)) (has_none (peek_names w s Translator)) ∙ none_of_merged
    none_of_pair false false vs f g e = absurd (false≢true e)

    same_list : (xs ys : List NameVariable) → same_variables xs ys ≡ true → xs ≡ ys
    same_list xs ys e = (slice_eq-Decides name_decides xs ys (same_variables xs ys) refl).0 e

    -- the lists, merged if the style has the term and the variables are that pair
    none_of_lists : (word pair : Bool) (vs : List NameVariable) → pair ≡ is_pair vs → all_empty (peeked_lists w s vs) ≡ all_empty (if word && pair then merged else each_resolved w s vs)
    none_of_lists true true vs e =
        none_of_pair (same_variables vs (Editor ∷ Translator ∷ [])) (same_variables vs (Translator ∷ Editor ∷ [])) vs (same_list vs (Editor ∷ Translator ∷ [])) (same_list vs (Translator ∷ Editor ∷ [])) (sym e)
    none_of_lists true false vs e = none_of_each vs s
    none_of_lists false true vs e = none_of_each vs s
    none_of_lists false false vs e = none_of_each vs s

    none_resolved : (vs : List NameVariable) → all_empty (peeked_lists w s vs) ≡ all_empty (resolved_lists w s vs)
    none_resolved vs = none_of_lists (is_some (term_in w.style (terms.Name EditorTranslator) term_forms.Long false)) (is_pair vs) vs refl

    alike_after_two : all_empty merged ≡ true → AreLookedUpAlike w s (state_after_resolve (variable.Name Translator) between)
    alike_after_two e =
        let parts = and_parts (has_none (peek_names w s Editor)) (has_none (peek_names w between Translator)) (sym (none_of_two (peek_names w s Editor) (peek_names w between Translator)) ∙ e) in
        alike_through s between (state_after_resolve (variable.Name Translator) between) (alike_after s Editor (empty_is (peek_names w s Editor) parts.0)) (alike_after between Translator (empty_is (peek_names w between Translator) parts.1))

    alike_if : (b : Bool) (vs : List NameVariable) → all_empty (if b then merged else each_resolved w s vs) ≡ true → AreLookedUpAlike w s (if b then state_after_resolve (variable.Name Translator) between else state_after_resolve_all w s vs)
    alike_if true vs e = alike_after_two e
    alike_if false vs e = alike_after_all vs s e

    alike_after_lists : (vs : List NameVariable) → all_empty (resolved_lists w s vs) ≡ true → AreLookedUpAlike w s (lists_state w s vs)
    alike_after_lists vs e = alike_if (may_merge w.style vs) vs e

    -- ---- names

    module _ (n : NamesNode) (is : ExpandedSubstitutes) where
      abbrev empty : Bool
      empty = all_empty (resolved_lists w s n.variables)

      shown_after : shows w s author (expanded_names n is) ≡ names_show author n empty (substitute_shows w (lists_state w s n.variables) author is)
      shown_after =
          ap (λ b. names_show author n b (substitute_shows w s author is)) (none_resolved n.variables)
          ∙ ap (λ b. has_variable Author n.variables || b)
          (by_first empty (substitute_shows w s author is) (substitute_shows w (lists_state w s n.variables) author is) (λ e. substitute_shows_same w s (lists_state w s n.variables) (alike_after_lists n.variables e) author is))

      -- names are refused after their lookups by what is told of them before
      pub refused_after : (told : Bool) → TellsAuthor w told (shows w s author (expanded_names n is)) → is_refused w.instance.special n empty is told ≡ refused_in w n is empty (lists_state w s n.variables)
      refused_after told tells = refused_same w.instance.special n empty is told (names_show author n empty (substitute_shows w (lists_state w s n.variables) author is)) (λ asks. tells asks ∙ shown_after)
