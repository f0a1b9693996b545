-- What a snapshot keeps of an entry, and what it answers.
use Rattle.std.proofs.Common.{◌≡◌, ◌↔◌, true, false, List, [], ◌∷◌, Option, Some, None, option_map, map, Result, Ok, Err, refl, sym, ap, ◌∙◌, rules}
use Rattle.std.specs.Prelude.{Bool, cond, ◌||◌, ◌&&◌, IfOk}
use Rattle.std.specs.BTreeMap.{is_at}
use Rattle.std.specs.Bool.{Decides}
use Rattle.std.specs.List.{list_any, filter, cons_option}
use Rattle.std.specs.declared.cmp.Ordering.{Ordering}
use Rattle.std.specs.declared.cmp.Ordering.TheVariants.{Equal}
use Rattle.std.proofs.lemmas.Bool.{false≢true}
use Rattle.lit_model.specs.Person.{PersonView}
use Rattle.csl_common.specs.declared.form.LongShortForm.{LongShortForm}
use Rattle.csl_common.specs.declared.form.LongShortForm.TheVariants.{Long, Short}
use Rattle.csl_elements.proofs.Variables.{number_ordered, page_ordered, standard_ordered, name_ordered, date_ordered, kind_ordered, number_decides, page_decides, standard_decides, name_decides, date_decides}
use Rattle.csl_elements.specs.NamedSet.{NamedItem, named_set, a_variable, a_kind}
use Rattle.csl_elements.specs.declared.named.Named.{Named}
use Rattle.csl_elements.specs.declared.taxonomy.Kind.{Kind}
use Rattle.csl_elements.specs.declared.taxonomy.Variable.TheVariants as variable
use Rattle.csl_elements.specs.declared.taxonomy.StandardVariable.{StandardVariable}
use Rattle.csl_elements.specs.declared.taxonomy.NameVariable.{NameVariable}
use Rattle.csl_elements.specs.contracts.taxonomy.NumberVariableOrd.TheImpl.{cmp-value as cmp_number}
use Rattle.csl_elements.specs.contracts.taxonomy.PageVariableOrd.TheImpl.{cmp-value as cmp_page}
use Rattle.csl_elements.specs.contracts.taxonomy.StandardVariableOrd.TheImpl.{cmp-value as cmp_standard}
use Rattle.csl_elements.specs.contracts.taxonomy.NameVariableOrd.TheImpl.{cmp-value as cmp_name}
use Rattle.csl_elements.specs.contracts.taxonomy.DateVariableOrd.TheImpl.{cmp-value as cmp_date}
use Rattle.csl_elements.specs.contracts.taxonomy.KindOrd.TheImpl.{cmp-value as cmp_kind}
use Rattle.csl_elements.specs.contracts.taxonomy.NumberVariablePartialEq.TheImpl.{eq-value as eq_number}
use Rattle.csl_elements.specs.contracts.taxonomy.PageVariablePartialEq.TheImpl.{eq-value as eq_page}
use Rattle.csl_elements.specs.contracts.taxonomy.StandardVariablePartialEq.TheImpl.{eq-value as eq_standard}
use Rattle.csl_elements.specs.contracts.taxonomy.NameVariablePartialEq.TheImpl.{eq-value as eq_name}
use Rattle.csl_elements.specs.contracts.taxonomy.DateVariablePartialEq.TheImpl.{eq-value as eq_date}
use Rattle.csl_elements.specs.contracts.taxonomy.KindPartialEq.TheImpl.{eq-value as eq_kind}
use Rattle.csl_entry.specs.Alike.{SameAnswer, SameNamedAnswers, Each}
use Rattle.csl_entry.specs.Answers.{Answers}
use Rattle.csl_entry.specs.Snapshot.{paired, keyed, kept_answers, answer_at, unless_empty, persons_or_none, snapshot_of, kept_in, no_answers}
use Rattle.csl_entry.proofs.AlikeSets.{is_equal, numbers_if, pages_if, standards_if, names_if, dates_if, kinds_if}

-- ---- the views of what is kept

viewed_first : {V W : Type 0} (view : V → W) (b : Bool) (v : V) (x : Option W) (y : Option V) → option_map view y ≡ x → option_map view (cond b (Some v) y) ≡ cond b (Some (view v)) x
viewed_first view true v x y h = refl
viewed_first view false v x y h = h

viewed_all : {K V W : Type 0} (same : K → K → Bool) (view : V → W) (ps : List (K × V)) (k : K) → option_map view (answer_at same ps k) ≡ answer_at same (map (keyed view) ps) k
viewed_all same view [] k = refl
viewed_all same view (p ∷ ps) k = viewed_first view (same p.0 k) p.1 _ _ (viewed_all same view ps k)

pub viewed : {K V W : Type 0} (same : K → K → Bool) (view : V → W) (ps qs : List (K × V)) (k : K) (found : Option V) → qs ≡ ps → found ≡ answer_at same qs k → option_map view found ≡ answer_at same (map (keyed view) ps) k
viewed same view ps qs k found e f = ap (option_map view) f ∙ ap (λ l. option_map view (answer_at same l k)) e ∙ viewed_all same view ps k

pub ok_through : {T E A : Type 0} (r : Result T E) (f : T → A) (x y : A) → IfOk r (λ t. f t ≡ x) → x ≡ y → IfOk r (λ t. f t ≡ y)
ok_through (Ok t) f x y h e = h ∙ e
ok_through (Err t) f x y h e = h

-- ---- what is kept for a variable

none_either : {V : Type 0} (b : Bool) (o : Option V) → o ≡ None → cond b o None ≡ None
none_either true o h = h
none_either false o h = refl

nothing_of : (b p : Bool) → p ≡ false → (b && p) ≡ false
nothing_of true p h = h
nothing_of false p h = refl

module _ {K : Type 0} (cmp : K → K → Ordering) (ordered : (a b : K) → (cmp a b ≡ Equal) ↔ (a ≡ b)) (same : K → K → Bool) (decides : (a b : K) → Decides (same a b) (a ≡ b)) where
  same_key : (v k : K) → is_at (cmp v) k ≡ true → v ≡ k
  same_key v k h = (ordered v k).0 (is_equal _ h)

  seen_equal : (v k : K) → is_at (cmp v) k ≡ true → same k v ≡ true
  seen_equal v k h = (decides k v).1 (sym (same_key v k h))

  seen_at : (v k : K) → k ≡ v → is_at (cmp v) k ≡ true
  seen_at v k e = rw ((ordered v k).1 (sym e)) refl

  unequal : (v k : K) (r : Bool) → is_at (cmp v) k ≡ false → same k v ≡ r → r ≡ false
  unequal v k false h e = refl
  unequal v k true h e = absurd (false≢true (sym h ∙ seen_at v k ((decides k v).0 e)))

  seen_unequal : (v k : K) → is_at (cmp v) k ≡ false → same k v ≡ false
  seen_unequal v k h = unequal v k (same k v) h refl

  module _ {V : Type 0} (f : K → Option V) where
    look_first : (k : K) (ks : List K) (v : K) (b : Bool) (o : Option V) → is_at (cmp v) k ≡ b → f k ≡ o → answer_at same (kept_answers f ks) v ≡ cond (list_any (is_at (cmp v)) ks) (f v) None → answer_at same (cons_option (option_map (paired k) o) (kept_answers f ks)) v ≡ cond (b || list_any (is_at (cmp v)) ks) (f v) None
    look_first k ks v true None p q h = let e : f v ≡ None = ap f (same_key v k p) ∙ q in h ∙ none_either _ _ e ∙ sym e
    look_first k ks v true (Some a) p q h = rw (seen_equal v k p) (sym q ∙ sym (ap f (same_key v k p)))
    look_first k ks v false None p q h = h
    look_first k ks v false (Some a) p q h = rw (seen_unequal v k p) h

    look : (ks : List K) (v : K) → answer_at same (kept_answers f ks) v ≡ cond (list_any (is_at (cmp v)) ks) (f v) None
    look [] v = refl
    look (k ∷ ks) v = look_first k ks v (is_at (cmp v) k) (f k) refl refl (look ks v)

    answered : (ks : List K) (v : K) → list_any (is_at (cmp v)) ks ≡ true → answer_at same (kept_answers f ks) v ≡ f v
    answered ks v h = look ks v ∙ ap (λ b. cond b (f v) None) h

    left_out : (ks : List K) (v : K) → list_any (is_at (cmp v)) ks ≡ false → answer_at same (kept_answers f ks) v ≡ None
    left_out ks v h = look ks v ∙ ap (λ b. cond b (f v) None) h

  module _ (f : K → Bool) where
    pick_first : (k : K) (ks : List K) (v : K) (b t : Bool) → is_at (cmp v) k ≡ b → f k ≡ t → list_any (λ x. same x v) (filter f ks) ≡ (list_any (is_at (cmp v)) ks && f v) → list_any (λ x. same x v) (cond t (k ∷ filter f ks) (filter f ks)) ≡ ((b || list_any (is_at (cmp v)) ks) && f v)
    pick_first k ks v true true p q h = rw (seen_equal v k p) (sym q ∙ sym (ap f (same_key v k p)))
    pick_first k ks v true false p q h = let e : f v ≡ false = ap f (same_key v k p) ∙ q in h ∙ nothing_of _ _ e ∙ sym e
    pick_first k ks v false true p q h = rw (seen_unequal v k p) h
    pick_first k ks v false false p q h = h

    pick : (ks : List K) (v : K) → list_any (λ x. same x v) (filter f ks) ≡ (list_any (is_at (cmp v)) ks && f v)
    pick [] v = refl
    pick (k ∷ ks) v = pick_first k ks v (is_at (cmp v) k) (f k) refl refl (pick ks v)

-- ---- a snapshot answers alike with its entry on what is named, and nothing else

pub kind_decides : (a b : Kind) → Decides (eq_kind.it a b) (a ≡ b)
kind_decides a b = search rules

persons_again : (ps : List PersonView) → persons_or_none (unless_empty ps) ≡ ps
persons_again [] = refl
persons_again (p ∷ ps) = refl

text_alike : (n : Named) (a : Answers) (v : StandardVariable) → list_any (is_at (cmp_standard.it v)) n.standards.keys ≡ true → (form : LongShortForm) → (kept_in (snapshot_of n a)).standards form v ≡ a.standards form v
text_alike n a v h Long = answered cmp_standard.it standard_ordered eq_standard.it standard_decides (a.standards Long) n.standards.keys v h
text_alike n a v h Short = answered cmp_standard.it standard_ordered eq_standard.it standard_decides (a.standards Short) n.standards.keys v h

pub alike_of : (n : Named) (a : Answers) → SameNamedAnswers (named_set n) (kept_in (snapshot_of n a)) a
unfolding named_set
alike_of n a (a_variable (variable.Number v)) h = answered cmp_number.it number_ordered eq_number.it number_decides a.numbers n.numbers.keys v h
alike_of n a (a_variable (variable.Page v)) h = answered cmp_page.it page_ordered eq_page.it page_decides a.pages n.pages.keys v h
alike_of n a (a_variable (variable.Standard v)) h = text_alike n a v h
alike_of n a (a_variable (variable.Name v)) h = ap persons_or_none (answered cmp_name.it name_ordered eq_name.it name_decides (λ w. unless_empty (a.names w)) n.names.keys v h) ∙ persons_again (a.names v)
alike_of n a (a_variable (variable.Date v)) h = answered cmp_date.it date_ordered eq_date.it date_decides a.dates n.dates.keys v h
alike_of n a (a_kind k) h = pick cmp_kind.it kind_ordered eq_kind.it kind_decides a.kinds n.kinds.keys k ∙ ap (λ b. b && a.kinds k) h

text_silent : (n : Named) (a : Answers) (v : StandardVariable) → list_any (is_at (cmp_standard.it v)) n.standards.keys ≡ false → (form : LongShortForm) → (kept_in (snapshot_of n a)).standards form v ≡ None
text_silent n a v h Long = left_out cmp_standard.it standard_ordered eq_standard.it standard_decides (a.standards Long) n.standards.keys v h
text_silent n a v h Short = left_out cmp_standard.it standard_ordered eq_standard.it standard_decides (a.standards Short) n.standards.keys v h

pub silent_of : (n : Named) (a : Answers) (q : NamedItem) → named_set n q ≡ false → SameAnswer (kept_in (snapshot_of n a)) no_answers q
unfolding named_set
silent_of n a (a_variable (variable.Number v)) h = left_out cmp_number.it number_ordered eq_number.it number_decides a.numbers n.numbers.keys v h
silent_of n a (a_variable (variable.Page v)) h = left_out cmp_page.it page_ordered eq_page.it page_decides a.pages n.pages.keys v h
silent_of n a (a_variable (variable.Standard v)) h = text_silent n a v h
silent_of n a (a_variable (variable.Name v)) h = ap persons_or_none (left_out cmp_name.it name_ordered eq_name.it name_decides (λ w. unless_empty (a.names w)) n.names.keys v h)
silent_of n a (a_variable (variable.Date v)) h = left_out cmp_date.it date_ordered eq_date.it date_decides a.dates n.dates.keys v h
silent_of n a (a_kind k) h = pick cmp_kind.it kind_ordered eq_kind.it kind_decides a.kinds n.kinds.keys k ∙ ap (λ b. b && a.kinds k) h

-- ---- equal snapshots keep equal answers

each_kept : {K V : Type 0} (f g : K → Option V) (ks : List K) → Each (λ k. f k ≡ g k) ks → kept_answers f ks ≡ kept_answers g ks
each_kept f g [] e = refl
each_kept f g (k ∷ ks) (e, es) = λ i. cons_option (option_map (paired k) (e i)) (each_kept f g ks es i)

each_picked : {K : Type 0} (f g : K → Bool) (ks : List K) → Each (λ k. f k ≡ g k) ks → filter f ks ≡ filter g ks
each_picked f g [] e = refl
each_picked f g (k ∷ ks) (e, es) = λ i. cond (e i) (k ∷ each_picked f g ks es i) (each_picked f g ks es i)

each_form : (a b : Answers) (form : LongShortForm) (vs : List StandardVariable) → Each (λ v. (form : LongShortForm) → a.standards form v ≡ b.standards form v) vs → Each (λ v. a.standards form v ≡ b.standards form v) vs
each_form a b form [] e = tt
each_form a b form (v ∷ vs) (e, es) = (e form, each_form a b form vs es)

each_some : (a b : Answers) (vs : List NameVariable) → Each (λ v. a.names v ≡ b.names v) vs → Each (λ v. unless_empty (a.names v) ≡ unless_empty (b.names v)) vs
each_some a b [] e = tt
each_some a b (v ∷ vs) (e, es) = (ap unless_empty e, each_some a b vs es)

pub same_snapshot : (n : Named) (a b : Answers) → SameNamedAnswers (named_set n) a b → snapshot_of n a ≡ snapshot_of n b
same_snapshot n a b h =
    let numbers = each_kept a.numbers b.numbers n.numbers.keys (numbers_if n a b h) in
    let pages = each_kept a.pages b.pages n.pages.keys (pages_if n a b h) in
    let longs = each_kept (a.standards Long) (b.standards Long) n.standards.keys (each_form a b Long n.standards.keys (standards_if n a b h)) in
    let shorts = each_kept (a.standards Short) (b.standards Short) n.standards.keys (each_form a b Short n.standards.keys (standards_if n a b h)) in
    let names = each_kept (λ v. unless_empty (a.names v)) (λ v. unless_empty (b.names v)) n.names.keys (each_some a b n.names.keys (names_if n a b h)) in
    let dates = each_kept a.dates b.dates n.dates.keys (dates_if n a b h) in
    let kinds = each_picked a.kinds b.kinds n.kinds.keys (kinds_if n a b h) in
    λ i. record { numbers = numbers i; pages = pages i; long_texts = longs i; short_texts = shorts i; names = names i; dates = dates i; kinds = kinds i }

-- both entries answer alike with their snapshots, which are one
pub same_named : (n : Named) (a b : Answers) → snapshot_of n a ≡ snapshot_of n b → SameNamedAnswers (named_set n) a b
same_named n a b h (a_variable (variable.Number v)) e = sym (alike_of n a (a_variable (variable.Number v)) e) ∙ ap (λ k. (kept_in k).numbers v) h ∙ alike_of n b (a_variable (variable.Number v)) e
same_named n a b h (a_variable (variable.Page v)) e = sym (alike_of n a (a_variable (variable.Page v)) e) ∙ ap (λ k. (kept_in k).pages v) h ∙ alike_of n b (a_variable (variable.Page v)) e
same_named n a b h (a_variable (variable.Standard v)) e = λ form. sym (alike_of n a (a_variable (variable.Standard v)) e form) ∙ ap (λ k. (kept_in k).standards form v) h ∙ alike_of n b (a_variable (variable.Standard v)) e form
same_named n a b h (a_variable (variable.Name v)) e = sym (alike_of n a (a_variable (variable.Name v)) e) ∙ ap (λ k. (kept_in k).names v) h ∙ alike_of n b (a_variable (variable.Name v)) e
same_named n a b h (a_variable (variable.Date v)) e = sym (alike_of n a (a_variable (variable.Date v)) e) ∙ ap (λ k. (kept_in k).dates v) h ∙ alike_of n b (a_variable (variable.Date v)) e
same_named n a b h (a_kind k) e = sym (alike_of n a (a_kind k) e) ∙ ap (λ s. (kept_in s).kinds k) h ∙ alike_of n b (a_kind k) e
