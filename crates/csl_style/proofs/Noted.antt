-- The items of a set after an insertion.
use Rattle.std.proofs.Common.{◌≡◌, Bool, true, false, refl, sym, ap, ◌∙◌, cond}
use Rattle.std.proofs.Math.Bool.{and-false}
use Rattle.std.specs.Prelude.{◌||◌, ◌&&◌, not}
use Rattle.std.specs.BTreeSet.{BTreeSet, Updates, contains, IsEmpty}
use Rattle.std.specs.List.{list_any}
use Rattle.std.specs.BTreeMap.{is_at}
use Rattle.csl_elements.specs.declared.taxonomy.Variable.{Variable}
use Rattle.csl_elements.specs.declared.taxonomy.Variable.TheVariants as variable
use Rattle.csl_elements.specs.declared.taxonomy.NumberVariable.{NumberVariable}
use Rattle.csl_elements.specs.declared.taxonomy.PageVariable.{PageVariable}
use Rattle.csl_elements.specs.declared.taxonomy.StandardVariable.{StandardVariable}
use Rattle.csl_elements.specs.declared.taxonomy.NameVariable.{NameVariable}
use Rattle.csl_elements.specs.declared.taxonomy.DateVariable.{DateVariable}
use Rattle.csl_elements.specs.declared.taxonomy.Kind.{Kind}
use Rattle.csl_elements.specs.contracts.taxonomy.NumberVariableOrd.TheImpl.{cmp-value as cmp_number}
use Rattle.csl_elements.specs.contracts.taxonomy.PageVariableOrd.TheImpl.{cmp-value as cmp_page}
use Rattle.csl_elements.specs.contracts.taxonomy.StandardVariableOrd.TheImpl.{cmp-value as cmp_standard}
use Rattle.csl_elements.specs.contracts.taxonomy.NameVariableOrd.TheImpl.{cmp-value as cmp_name}
use Rattle.csl_elements.specs.contracts.taxonomy.DateVariableOrd.TheImpl.{cmp-value as cmp_date}
use Rattle.csl_elements.specs.contracts.taxonomy.KindOrd.TheImpl.{cmp-value as cmp_kind}
use Rattle.csl_elements.specs.declared.named.Named.{Named}
use Rattle.csl_elements.specs.NamedSet.{NamedItem, a_variable, a_kind, named_union, empty_named_set, named_set}
use Rattle.csl_style.specs.Named.{the_variable, the_kind}
use Rattle.csl_elements.specs.Taxonomy.{is_of_citation}
use Rattle.csl_elements.proofs.Sets.{or_false}

added : (p x : Bool) → cond p true x ≡ (x || p)
added true true = refl
added true false = refl
added false true = refl
added false false = refl

added_if : (p x e : Bool) → e ≡ true → cond p true x ≡ (x || (p && e))
added_if true true e h = refl
added_if true false e h = sym h
added_if false true e h = refl
added_if false false e h = refl

-- a variable of the citation adds nothing
not_noted_at : (v : Variable) → is_of_citation v ≡ true → (q : NamedItem) → the_variable v q ≡ false
unfolding the_variable
not_noted_at v e (a_variable u) = rw e (and-false _)
not_noted_at v e (a_kind k) = refl

pub not_noted : (n : Named) (v : Variable) → is_of_citation v ≡ true → named_set n ≡ named_union (named_set n) (the_variable v)
unfolding named_union
not_noted n v e = λ i q. (sym (or_false (named_set n q)) ∙ ap (λ p. named_set n q || p) (sym (not_noted_at v e q))) i

module _ (n : Named) where
  number_at : (s : BTreeSet NumberVariable) (v : NumberVariable) → is_of_citation (variable.Number v) ≡ false → Updates cmp_number.it n.numbers s v true → (q : NamedItem) → named_set (record n { numbers = s }) q ≡ (named_set n q || the_variable (variable.Number v) q)
  unfolding named_set the_variable
  number_at s v e up (a_variable (variable.Number u)) = up.0 u ∙ added_if _ _ _ (ap not e)
  number_at s v e up other = sym (or_false _)

  pub number_noted : (s : BTreeSet NumberVariable) (v : NumberVariable) → is_of_citation (variable.Number v) ≡ false → Updates cmp_number.it n.numbers s v true → named_set (record n { numbers = s }) ≡ named_union (named_set n) (the_variable (variable.Number v))
  unfolding named_union
  number_noted s v e up = λ i q. number_at s v e up q i

  standard_at : (s : BTreeSet StandardVariable) (v : StandardVariable) → is_of_citation (variable.Standard v) ≡ false → Updates cmp_standard.it n.standards s v true → (q : NamedItem) → named_set (record n { standards = s }) q ≡ (named_set n q || the_variable (variable.Standard v) q)
  unfolding named_set the_variable
  standard_at s v e up (a_variable (variable.Standard u)) = up.0 u ∙ added_if _ _ _ (ap not e)
  standard_at s v e up other = sym (or_false _)

  pub standard_noted : (s : BTreeSet StandardVariable) (v : StandardVariable) → is_of_citation (variable.Standard v) ≡ false → Updates cmp_standard.it n.standards s v true → named_set (record n { standards = s }) ≡ named_union (named_set n) (the_variable (variable.Standard v))
  unfolding named_union
  standard_noted s v e up = λ i q. standard_at s v e up q i

  page_at : (s : BTreeSet PageVariable) (v : PageVariable) → Updates cmp_page.it n.pages s v true → (q : NamedItem) → named_set (record n { pages = s }) q ≡ (named_set n q || the_variable (variable.Page v) q)
  unfolding named_set the_variable
  page_at s v up (a_variable (variable.Page u)) = up.0 u ∙ added_if (is_at (cmp_page.it v) u) _ true refl
  page_at s v up other = sym (or_false _)

  pub page_noted : (s : BTreeSet PageVariable) (v : PageVariable) → Updates cmp_page.it n.pages s v true → named_set (record n { pages = s }) ≡ named_union (named_set n) (the_variable (variable.Page v))
  unfolding named_union
  page_noted s v up = λ i q. page_at s v up q i

  name_at : (s : BTreeSet NameVariable) (v : NameVariable) → Updates cmp_name.it n.names s v true → (q : NamedItem) → named_set (record n { names = s }) q ≡ (named_set n q || the_variable (variable.Name v) q)
  unfolding named_set the_variable
  name_at s v up (a_variable (variable.Name u)) = up.0 u ∙ added_if _ _ _ refl
  name_at s v up other = sym (or_false _)

  pub name_noted : (s : BTreeSet NameVariable) (v : NameVariable) → Updates cmp_name.it n.names s v true → named_set (record n { names = s }) ≡ named_union (named_set n) (the_variable (variable.Name v))
  unfolding named_union
  name_noted s v up = λ i q. name_at s v up q i

  date_at : (s : BTreeSet DateVariable) (v : DateVariable) → Updates cmp_date.it n.dates s v true → (q : NamedItem) → named_set (record n { dates = s }) q ≡ (named_set n q || the_variable (variable.Date v) q)
  unfolding named_set the_variable
  date_at s v up (a_variable (variable.Date u)) = up.0 u ∙ added_if _ _ _ refl
  date_at s v up other = sym (or_false _)

  pub date_noted : (s : BTreeSet DateVariable) (v : DateVariable) → Updates cmp_date.it n.dates s v true → named_set (record n { dates = s }) ≡ named_union (named_set n) (the_variable (variable.Date v))
  unfolding named_union
  date_noted s v up = λ i q. date_at s v up q i

  kind_at : (s : BTreeSet Kind) (k : Kind) → Updates cmp_kind.it n.kinds s k true → (q : NamedItem) → named_set (record n { kinds = s }) q ≡ (named_set n q || the_kind k q)
  unfolding named_set the_kind
  kind_at s k up (a_kind l) = up.0 l ∙ added (is_at (cmp_kind.it k) l) (contains cmp_kind.it n.kinds l)
  kind_at s k up other = sym (or_false _)

  pub kind_noted : (s : BTreeSet Kind) (k : Kind) → Updates cmp_kind.it n.kinds s k true → named_set (record n { kinds = s }) ≡ named_union (named_set n) (the_kind k)
  unfolding named_union
  kind_noted s k up = λ i q. kind_at s k up q i

nothing_at : (n : Named) → IsEmpty n.numbers → IsEmpty n.pages → IsEmpty n.standards → IsEmpty n.names → IsEmpty n.dates → IsEmpty n.kinds → (q : NamedItem) → named_set n q ≡ false
unfolding named_set
nothing_at n a b c d e f (a_variable (variable.Number v)) = ap (list_any (is_at (cmp_number.it v))) a
nothing_at n a b c d e f (a_variable (variable.Page v)) = ap (list_any (is_at (cmp_page.it v))) b
nothing_at n a b c d e f (a_variable (variable.Standard v)) = ap (list_any (is_at (cmp_standard.it v))) c
nothing_at n a b c d e f (a_variable (variable.Name v)) = ap (list_any (is_at (cmp_name.it v))) d
nothing_at n a b c d e f (a_variable (variable.Date v)) = ap (list_any (is_at (cmp_date.it v))) e
nothing_at n a b c d e f (a_kind k) = ap (list_any (is_at (cmp_kind.it k))) f

pub has_nothing : (n : Named) → IsEmpty n.numbers → IsEmpty n.pages → IsEmpty n.standards → IsEmpty n.names → IsEmpty n.dates → IsEmpty n.kinds → named_set n ≡ empty_named_set
has_nothing n a b c d e f = λ i q. nothing_at n a b c d e f q i

-- for the insertion of a variable
pub ruleset noted_laws = (not_noted, number_noted, page_noted, standard_noted, name_noted, date_noted)
