-- Whether two entries answer alike on six sets: one of each sort of variable, and one of kinds.
use Rattle.std.proofs.Common.{◌≡◌, ◌↔◌, Bool, true, false, List, [], ◌∷◌, refl, sym, subst, ◌∙◌}
use Rattle.std.specs.Prelude.{◌||◌, ◌&&◌}
use Rattle.std.specs.BTreeMap.{is_at}
use Rattle.std.specs.Bool.{Decides}
use Rattle.std.specs.List.{list_any}
use Rattle.std.specs.Ordering.{is_eq}
use Rattle.std.specs.declared.cmp.Ordering.{Ordering}
use Rattle.std.specs.declared.cmp.Ordering.TheVariants.{Less, Equal, Greater}
use Rattle.lit_model.proofs.ByValue.{both, through}
use Rattle.csl_common.specs.declared.form.LongShortForm.{LongShortForm}
use Rattle.csl_elements.proofs.Sets.{or_left, or_right}
use Rattle.csl_elements.proofs.Variables.{number_ordered, page_ordered, standard_ordered, name_ordered, date_ordered, kind_ordered}
use Rattle.csl_elements.specs.NamedSet.{named_set, a_variable, a_kind}
use Rattle.csl_elements.specs.declared.named.Named.{Named}
use Rattle.csl_elements.specs.declared.taxonomy.Variable.TheVariants as variable
use Rattle.csl_elements.specs.contracts.taxonomy.NumberVariableOrd.TheImpl.{cmp-value as cmp_number}
use Rattle.csl_elements.specs.contracts.taxonomy.PageVariableOrd.TheImpl.{cmp-value as cmp_page}
use Rattle.csl_elements.specs.contracts.taxonomy.StandardVariableOrd.TheImpl.{cmp-value as cmp_standard}
use Rattle.csl_elements.specs.contracts.taxonomy.NameVariableOrd.TheImpl.{cmp-value as cmp_name}
use Rattle.csl_elements.specs.contracts.taxonomy.DateVariableOrd.TheImpl.{cmp-value as cmp_date}
use Rattle.csl_elements.specs.contracts.taxonomy.KindOrd.TheImpl.{cmp-value as cmp_kind}
use Rattle.csl_entry.specs.Alike.{SameNamedAnswers, Each}
use Rattle.csl_entry.specs.Answers.{Answers}

-- ---- one answer

pub decides_at : {V : Type 0} (r : Bool) (x y u v : V) → Decides r (x ≡ y) → x ≡ u → y ≡ v → Decides r (u ≡ v)
decides_at r x y u v d h k = (λ t. sym h ∙ d.0 t ∙ k, λ p. d.1 (h ∙ p ∙ sym k))

-- ---- one set: P holds for each key exactly if it holds for each item in the set

pub is_equal : (r : Ordering) → is_eq r ≡ true → r ≡ Equal
is_equal Less h = cc
is_equal Equal h = refl
is_equal Greater h = cc

module _ {K : Type 0} (cmp : K → K → Ordering) (ordered : (a b : K) → (cmp a b ≡ Equal) ↔ (a ≡ b)) (P : K → Type 0) where
  in_head : (v k : K) (b : Bool) (rest : Bool) → is_at (cmp v) k ≡ b → P k → (rest ≡ true → P v) → (b || rest) ≡ true → P v
  in_head v k true rest e p more h = subst P (sym ((ordered v k).0 (is_equal (cmp v k) e))) p
  in_head v k false rest e p more h = more h

  each_contained : (ks : List K) → Each P ks → (v : K) → list_any (is_at (cmp v)) ks ≡ true → P v
  each_contained [] e v h = cc
  each_contained (k ∷ ks) (p, ps) v h = in_head v k (is_at (cmp v) k) (list_any (is_at (cmp v)) ks) refl p (each_contained ks ps v) h

  own_place : (k : K) → is_at (cmp k) k ≡ true
  own_place k = rw ((ordered k k).1 refl) refl

  contained_each : (ks : List K) → ((v : K) → list_any (is_at (cmp v)) ks ≡ true → P v) → Each P ks
  contained_each [] h = tt
  contained_each (k ∷ ks) h = (h k (or_left _ _ (own_place k)), contained_each ks (λ v e. h v (or_right _ _ e)))

-- ---- all six sets

module _ (n : Named) (a b : Answers) where
  abbrev EachNumber : Type 0
  EachNumber = Each (λ v. a.numbers v ≡ b.numbers v) n.numbers.keys

  abbrev EachPage : Type 0
  EachPage = Each (λ v. a.pages v ≡ b.pages v) n.pages.keys

  abbrev EachStandard : Type 0
  EachStandard = Each (λ v. (form : LongShortForm) → a.standards form v ≡ b.standards form v) n.standards.keys

  abbrev EachName : Type 0
  EachName = Each (λ v. a.names v ≡ b.names v) n.names.keys

  abbrev EachDate : Type 0
  EachDate = Each (λ v. a.dates v ≡ b.dates v) n.dates.keys

  abbrev EachKind : Type 0
  EachKind = Each (λ v. a.kinds v ≡ b.kinds v) n.kinds.keys

  alike_if : EachNumber → EachPage → EachStandard → EachName → EachDate → EachKind → SameNamedAnswers (named_set n) a b
  unfolding named_set
  alike_if f g h i j k (a_variable (variable.Number v)) e = each_contained cmp_number.it number_ordered (λ v. a.numbers v ≡ b.numbers v) n.numbers.keys f v e
  alike_if f g h i j k (a_variable (variable.Page v)) e = each_contained cmp_page.it page_ordered (λ v. a.pages v ≡ b.pages v) n.pages.keys g v e
  alike_if f g h i j k (a_variable (variable.Standard v)) e = each_contained cmp_standard.it standard_ordered (λ v. (form : LongShortForm) → a.standards form v ≡ b.standards form v) n.standards.keys h v e
  alike_if f g h i j k (a_variable (variable.Name v)) e = each_contained cmp_name.it name_ordered (λ v. a.names v ≡ b.names v) n.names.keys i v e
  alike_if f g h i j k (a_variable (variable.Date v)) e = each_contained cmp_date.it date_ordered (λ v. a.dates v ≡ b.dates v) n.dates.keys j v e
  alike_if f g h i j k (a_kind l) e = each_contained cmp_kind.it kind_ordered (λ v. a.kinds v ≡ b.kinds v) n.kinds.keys k l e

  pub numbers_if : SameNamedAnswers (named_set n) a b → EachNumber
  unfolding named_set
  numbers_if h = contained_each cmp_number.it number_ordered _ n.numbers.keys (λ v e. h (a_variable (variable.Number v)) e)

  pub pages_if : SameNamedAnswers (named_set n) a b → EachPage
  unfolding named_set
  pages_if h = contained_each cmp_page.it page_ordered _ n.pages.keys (λ v e. h (a_variable (variable.Page v)) e)

  pub standards_if : SameNamedAnswers (named_set n) a b → EachStandard
  unfolding named_set
  standards_if h = contained_each cmp_standard.it standard_ordered _ n.standards.keys (λ v e. h (a_variable (variable.Standard v)) e)

  pub names_if : SameNamedAnswers (named_set n) a b → EachName
  unfolding named_set
  names_if h = contained_each cmp_name.it name_ordered _ n.names.keys (λ v e. h (a_variable (variable.Name v)) e)

  pub dates_if : SameNamedAnswers (named_set n) a b → EachDate
  unfolding named_set
  dates_if h = contained_each cmp_date.it date_ordered _ n.dates.keys (λ v e. h (a_variable (variable.Date v)) e)

  pub kinds_if : SameNamedAnswers (named_set n) a b → EachKind
  unfolding named_set
  kinds_if h = contained_each cmp_kind.it kind_ordered _ n.kinds.keys (λ v e. h (a_kind v) e)

  pub alike_decides : (r p q s m d k : Bool) → r ≡ (p && (q && (s && (m && (d && k))))) → Decides p EachNumber → Decides q EachPage → Decides s EachStandard → Decides m EachName → Decides d EachDate → Decides k EachKind → Decides r (SameNamedAnswers (named_set n) a b)
  alike_decides r p q s m d k e dp dq ds dm dd dk =
      let all = both p _ dp (both q _ dq (both s _ ds (both m _ dm (both d k dd dk)))) in
      rw e (through _ all (λ h. let (f, (g, (t, (i, (j, l))))) = h in alike_if f g t i j l) (λ h. (numbers_if h, (pages_if h, (standards_if h, (names_if h, (dates_if h, kinds_if h)))))))
