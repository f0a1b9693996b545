-- Lookups in a state return the same for two entries that are alike on the variable, unless the state
-- suppresses it.
use Rattle.std.proofs.Common.{◌≡◌, Bool, true, false, [], refl, sym, ap, ◌∙◌}
use Rattle.std.proofs.lemmas.Bool.{false≢true}
use Rattle.std.specs.Prelude.{not, option_map, None, if◌then◌else◌}
use Rattle.csl_common.specs.declared.form.LongShortForm.{LongShortForm}
use Rattle.csl_elements.specs.declared.taxonomy.DateVariable.{DateVariable}
use Rattle.csl_elements.specs.declared.taxonomy.Kind.{Kind}
use Rattle.csl_elements.specs.declared.taxonomy.NameVariable.{NameVariable}
use Rattle.csl_elements.specs.declared.taxonomy.NumberOrPageVariable.{NumberOrPageVariable}
use Rattle.csl_elements.specs.declared.taxonomy.NumberOrPageVariable.TheVariants as number_or_page
use Rattle.csl_elements.specs.declared.taxonomy.NumberVariable.{NumberVariable}
use Rattle.csl_elements.specs.declared.taxonomy.PageVariable.{PageVariable}
use Rattle.csl_elements.specs.declared.taxonomy.StandardVariable.{StandardVariable}
use Rattle.csl_elements.specs.declared.taxonomy.Variable.{Variable}
use Rattle.csl_elements.specs.declared.taxonomy.Variable.TheVariants as variable
use Rattle.csl_elements.specs.NamedSet.{NamedItem, NamedSet, a_variable, a_kind}
use Rattle.csl_style.specs.Named.{the_variable, the_kind, the_number_or_page}
use Rattle.csl_elements.specs.Taxonomy.{is_of_citation}
use Rattle.csl_elements.proofs.Variables.{variable_ordered, kind_ordered}
use Rattle.csl_entry.specs.Alike.{SameAnswer}
use Rattle.csl_entry.specs.Answers.{Answers}
use Rattle.csl_entry.specs.NumberResult.{number, page}
use Rattle.csl_entry.proofs.Looks.{number_alike, standard_alike}
use Rattle.csl_context.specs.State.{State, is_suppressed}
use Rattle.csl_context.specs.RenderInput.{RenderInput, peek_number, peek_page, peek_standard, peek_names, peek_date}
use Rattle.csl_nodes.specs.NumberOrPage.{peek_number_or_page}
use Rattle.csl_render.specs.Keeps.{Keeps}
use Rattle.csl_render.specs.Pair.{with_answers, is_free, AgreeButForSuppressed}

-- the answer of a lookup that may be suppressed
unless : {A : Type 0} (x : Bool) (none o p : A) → (x ≡ false → o ≡ p) → (if x then none else o) ≡ (if x then none else p)
unless true none o p f = refl
unless false none o p f = f refl

not_both : (x y : Bool) → (x ≡ true → y ≡ true) → not y ≡ true → not x ≡ true
not_both false y h e = refl
not_both true y h e = absurd (false≢true (ap not (sym (h refl)) ∙ e))

still_free : (s t : State) → Keeps s t → (q : NamedItem) → is_free t q ≡ true → is_free s q ≡ true
still_free s t k (a_variable v) f = not_both (is_suppressed s v) (is_suppressed t v) (k.suppressed v) f
still_free s t k (a_kind x) f = refl

module _ (a b : Answers) where
  -- both answer alike on what is in the set and not suppressed
  abbrev pub Free : State → NamedSet → Type 0
  Free s p = AgreeButForSuppressed s p a b

  pub later : (s t : State) (p : NamedSet) → Keeps s t → Free s p → Free t p
  later s t p k h q e f = h q e (still_free s t k q f)

  answer_alike : (s : State) (v : Variable) → Free s (the_variable v) → is_suppressed s v ≡ false → is_of_citation v ≡ false → SameAnswer a b (a_variable v)
  unfolding the_variable
  answer_alike s v h e c = h (a_variable v) (rw ((variable_ordered v v).1 refl, c) refl) (ap not e)

  pub kind_alike : (s : State) (k : Kind) → Free s (the_kind k) → a.kinds k ≡ b.kinds k
  unfolding the_kind
  kind_alike s k h = h (a_kind k) (rw ((kind_ordered k k).1 refl) refl) refl

  module _ (w : RenderInput) (s : State) where
    pub number_look_alike : (v : NumberVariable) → Free s (the_variable (variable.Number v)) → peek_number (with_answers a w) s v ≡ peek_number (with_answers b w) s v
    number_look_alike v h = unless (is_suppressed s (variable.Number v)) None _ _ (λ e. number_alike v (with_answers a w).instance (with_answers b w).instance refl (answer_alike s (variable.Number v) h e))

    pub page_look_alike : (v : PageVariable) → Free s (the_variable (variable.Page v)) → peek_page (with_answers a w) s v ≡ peek_page (with_answers b w) s v
    page_look_alike v h = unless (is_suppressed s (variable.Page v)) None _ _ (λ e. answer_alike s (variable.Page v) h e refl)

    pub number_or_page_look_alike : (v : NumberOrPageVariable) → Free s (the_number_or_page v) → peek_number_or_page (with_answers a w) s v ≡ peek_number_or_page (with_answers b w) s v
    number_or_page_look_alike (number_or_page.Number v) h = ap (option_map number) (number_look_alike v h)
    number_or_page_look_alike (number_or_page.Page v) h = ap (option_map page) (page_look_alike v h)

    pub standard_look_alike : (form : LongShortForm) (v : StandardVariable) → Free s (the_variable (variable.Standard v)) → peek_standard (with_answers a w) s form v ≡ peek_standard (with_answers b w) s form v
    standard_look_alike form v h = unless (is_suppressed s (variable.Standard v)) None _ _ (λ e. standard_alike form v (with_answers a w).instance (with_answers b w).instance refl (λ c. answer_alike s (variable.Standard v) h e c form))

    pub name_look_alike : (v : NameVariable) → Free s (the_variable (variable.Name v)) → peek_names (with_answers a w) s v ≡ peek_names (with_answers b w) s v
    name_look_alike v h = unless (is_suppressed s (variable.Name v)) [] _ _ (λ e. answer_alike s (variable.Name v) h e refl)

    pub date_look_alike : (v : DateVariable) → Free s (the_variable (variable.Date v)) → peek_date (with_answers a w) s v ≡ peek_date (with_answers b w) s v
    date_look_alike v h = unless (is_suppressed s (variable.Date v)) None _ _ (λ e. answer_alike s (variable.Date v) h e refl)
