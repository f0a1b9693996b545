-- Nodes without children preserve the state (`Keeps`): a lookup only adds to the suppressed
-- variables, a date only sets its mark, and names set the first names only if the state has none.
use Rattle.std.proofs.Common.{◌≡◌, Bool, true, false, List, [], ◌∷◌, Option, Some, None, refl, ap, ◌∙◌}
use Rattle.std.specs.Prelude.{is_some, if◌then◌else◌}
use Rattle.std.specs.Option.{option_or}
use Rattle.lit_model.specs.Date.{DateView}
use Rattle.csl_elements.specs.contracts.taxonomy.VariablePartialEq.TheImpl.{eq-value as eq_variable}
use Rattle.csl_elements.specs.declared.names.NameForm.{NameForm}
use Rattle.csl_elements.specs.declared.names.NameForm.TheVariants.{Count, Short, Long}
use Rattle.csl_elements.specs.declared.taxonomy.DateVariable.{DateVariable}
use Rattle.csl_elements.specs.declared.taxonomy.NameVariable.{NameVariable}
use Rattle.csl_elements.specs.declared.taxonomy.NameVariable.TheVariants.{Editor, Translator}
use Rattle.csl_elements.specs.declared.taxonomy.Variable.{Variable}
use Rattle.csl_elements.specs.declared.taxonomy.Variable.TheVariants as variable
use Rattle.csl_elements.specs.Names.{NamesNode}
use Rattle.csl_elements.specs.Node.{Target, of_variable, of_term, of_value, NumberNode, DateNode}
use Rattle.csl_elements.specs.Taxonomy.{variable_of}
use Rattle.csl_elements.specs.VariableSet.{with_variable}
use Rattle.csl_elements.proofs.Sets.{or_right}
use Rattle.csl_entry.specs.NameProperties.{NameProperties}
use Rattle.csl_entry.specs.declared.citation.cite.Sorting.{Sorting}
use Rattle.csl_context.specs.State.{State, Inherited, state_after_resolve}
use Rattle.csl_context.specs.RenderInput.{RenderInput, peek_date}
use Rattle.csl_names.specs.NamesKept.{with_first_forms, with_first_forms_by}
use Rattle.csl_names.specs.NamesLists.{PersonLists, may_merge, all_empty, state_after_resolve_all, lists_state}
use Rattle.csl_nodes.specs.Date.{date_shows_own, printed_date, date_or_key, resolved_date, variable_output, localized_over}
use Rattle.csl_nodes.specs.Number.{shows_own, number_output}
use Rattle.csl_nodes.specs.Text.{RenderOutput, render_output, shows_variable, state_after_text_resolve, target_state}
use Rattle.csl_render.specs.Names.{suppressing_from, boxed_substitute, lists_output, lists_or_substitute}
use Rattle.csl_render.specs.Keeps.{Keeps}

-- ---- steps

pub keeps_itself : (s : State) → Keeps s s
keeps_itself s = record { switch = refl; suppressed = λ v h. h; date = λ h. h; names = λ h. refl }

pub keeps_through : (s t u : State) → Keeps s t → Keeps t u → Keeps s u
keeps_through s t u a b = record {
  switch = b.switch ∙ a.switch;
  suppressed = λ v h. b.suppressed v (a.suppressed v h);
  date = λ h. b.date (a.date h);
  names = λ h. b.names (ap (λ (o : Option NameProperties). is_some o) (a.names h) ∙ h) ∙ a.names h;
}

pub either_keeps : (s : State) (b : Bool) (m n : RenderOutput) → Keeps s m.state → Keeps s n.state → Keeps s (if b then m else n).state
either_keeps s true m n a c = a
either_keeps s false m n a c = c

if_keeps : (s : State) (b : Bool) (t u : State) → Keeps s t → Keeps s u → Keeps s (if b then t else u)
if_keeps s true t u a c = a
if_keeps s false t u a c = c

-- ---- lookups

-- a variable of a set is in the set with one more variable
still_has : (b : Bool) (u v : Variable) (set : Variable → Bool) → set v ≡ true → (if b then with_variable u set else set) v ≡ true
unfolding with_variable
still_has true u v set h = or_right (eq_variable.it v u) (set v) h
still_has false u v set h = h

pub look_keeps : (v : Variable) (s : State) → Keeps s (state_after_resolve v s)
look_keeps v s = record { switch = refl; suppressed = λ u h. still_has s.suppressing v u s.suppressed h; date = λ h. h; names = λ h. refl }

looks_keep : (w : RenderInput) (vs : List NameVariable) (s : State) → Keeps s (state_after_resolve_all w s vs)
looks_keep w [] s = keeps_itself s
looks_keep w (v ∷ vs) s = keeps_through s (state_after_resolve (variable.Name v) s) (state_after_resolve_all w (state_after_resolve (variable.Name v) s) vs) (look_keeps (variable.Name v) s) (looks_keep w vs (state_after_resolve (variable.Name v) s))

-- ---- the names that are printed first

option_stays : (o : Option NameProperties) (p : NameProperties) → is_some o ≡ true → option_or o (Some p) ≡ o
option_stays None p h = absurd (cc)
option_stays (Some x) p h = refl

forms_keep : (p : NameProperties) (s : State) → Keeps s (with_first_forms p s)
forms_keep p s = record { switch = refl; suppressed = λ v h. h; date = λ h. h; names = λ h. option_stays s.first_names p h }

form_keeps : (f : NameForm) (p : NameProperties) (s : State) → Keeps s (with_first_forms_by f p s)
form_keeps Count p s = keeps_itself s
form_keeps Short p s = forms_keep p s
form_keeps Long p s = forms_keep p s

-- after the substitute, lookups suppress their variable exactly if they did before it
substitute_keeps : (s t : State) → Keeps (suppressing_from s) t → Keeps s (record t { suppressing = s.suppressing })
substitute_keeps s t k = record { switch = refl; suppressed = k.suppressed; date = k.date; names = k.names }

-- ---- nodes

module _ (w : RenderInput) where
  pub lists_keep : (vs : List NameVariable) (s : State) → Keeps s (lists_state w s vs)
  lists_keep vs s =
      let e = variable.Name Editor in
      let t = variable.Name Translator in
      if_keeps s (may_merge w.style vs) (state_after_resolve t (state_after_resolve e s)) (state_after_resolve_all w s vs)
      (keeps_through s (state_after_resolve e s) (state_after_resolve t (state_after_resolve e s)) (look_keeps e s) (look_keeps t (state_after_resolve e s))) (looks_keep w vs s)

  after_look : (v : Variable) (s : State) → Keeps s (state_after_text_resolve v s)
  after_look (variable.Standard v) s = look_keeps (variable.Standard v) s
  after_look (variable.Number v) s = look_keeps (variable.Number v) s
  after_look (variable.Page v) s = look_keeps (variable.Page v) s
  after_look (variable.Name v) s = keeps_itself s
  after_look (variable.Date v) s = keeps_itself s

  pub target_keeps : (t : Target) (s : State) → Keeps s (target_state w t s)
  target_keeps (of_variable v form) s = if_keeps s (shows_variable w.instance.special v) (state_after_text_resolve v s) s (after_look v s) (keeps_itself s)
  target_keeps (of_term t form plural) s = keeps_itself s
  target_keeps (of_value bs) s = keeps_itself s

  pub number_keeps : (n : NumberNode) (inh : Inherited) (s : State) → Keeps s (number_output w n inh s).state
  number_keeps n inh s = either_keeps s (shows_own w n) (render_output _ (state_after_resolve (variable_of n.variable) s)) (render_output [] s) (look_keeps (variable_of n.variable) s) (keeps_itself s)

  printed_keeps : (o : Option DateNode) (d : DateView) (inh : Inherited) (s : State) → Keeps s (printed_date w o d inh s).state
  printed_keeps None d inh s = keeps_itself s
  printed_keeps (Some n) d inh s = record { switch = refl; suppressed = λ v h. h; date = λ h. refl; names = λ h. refl }

  key_keeps : (n : DateNode) (o : Option Sorting) (d : DateView) (inh : Inherited) (s : State) → Keeps s (date_or_key w n o d inh s).state
  key_keeps n None d inh s = printed_keeps (localized_over w.style n n.form) d inh s
  key_keeps n (Some sorting) d inh s = keeps_itself s

  found_keeps : (n : DateNode) (o : Option DateView) (inh : Inherited) (s : State) → Keeps s (resolved_date w n o inh s).state
  found_keeps n None inh s = keeps_itself s
  found_keeps n (Some d) inh s = key_keeps n w.instance.sorting d inh s

  pub date_keeps : (n : DateNode) (o : Option DateVariable) (inh : Inherited) (s : State) → Keeps s (variable_output w n o inh s).state
  date_keeps n None inh s = keeps_itself s
  date_keeps n (Some v) inh s =
      let t = state_after_resolve (variable.Date v) s in
      either_keeps s (date_shows_own w s v) (resolved_date w n (peek_date w s v) inh t) (render_output [] s)
      (keeps_through s t (resolved_date w n (peek_date w s v) inh t).state (look_keeps (variable.Date v) s) (found_keeps n (peek_date w s v) inh t)) (keeps_itself s)

  -- names that leave `t` after their lookups, if the substitute preserves `t`
  pub names_keep : (n : NamesNode) (ls : PersonLists) (refused : Bool) (inh : Inherited) (sub : RenderOutput) (s t : State) → Keeps s t → Keeps (suppressing_from t) sub.state → Keeps s (lists_or_substitute w n ls refused inh sub t).state
  names_keep n ls refused inh sub s t a b =
      either_keeps s refused (render_output [] t) (if all_empty ls then boxed_substitute n ls sub t else lists_output w n ls inh t) a
      (either_keeps s (all_empty ls) (boxed_substitute n ls sub t) (lists_output w n ls inh t)
      (keeps_through s t (boxed_substitute n ls sub t).state a (substitute_keeps t sub.state b)) (keeps_through s t (lists_output w n ls inh t).state a (form_keeps _ _ t)))
