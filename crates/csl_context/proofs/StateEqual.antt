-- `==` of states and of renderings decides whether their views are equal. Two ordered sets that
-- have the same variables have them in one order, since the variables of each ascend.
use Rattle.std.proofs.Common.{◌≡◌, Bool, List, refl, ap, rules}
use Rattle.std.specs.Bool.{Decides, beq}
use Rattle.std.specs.BTreeMap.{is_at}
use Rattle.std.specs.BTreeSet.{BTreeSet, IsOrdered}
use Rattle.std.specs.Cmp.Lexicographic.{pointwise}
use Rattle.std.specs.List.{list_any}
use Rattle.std.proofs.lemmas.Map.Lookups.{btree_set_from_contains}
use Rattle.std.proofs.lemmas.Slice.Eq.{slice_eq-Decides}
use Rattle.lit_model.proofs.ByValue.{both, through, option_view}
use Rattle.csl_elements.specs.declared.taxonomy.Variable.{Variable}
use Rattle.csl_elements.specs.contracts.taxonomy.VariableOrd.TheImpl.{cmp-value as cmp_variable}
use Rattle.csl_elements.specs.contracts.taxonomy.VariableOrd.TheImpl.Laws.{total-law}
use Rattle.csl_elements.specs.contracts.taxonomy.VariablePartialEq.TheImpl.{eq-value as eq_variable}
use Rattle.csl_elements.specs.VariableSet.{members_of}
use Rattle.csl_elements.proofs.Variables.{variable_decides, variable_ordered}
use Rattle.csl_tree.specs.Tokens.{tokens}
use Rattle.csl_tree.proofs.TreeEqual.{children_decide}
use Rattle.csl_entry.specs.NameProperties.{name_properties}
use Rattle.csl_entry.specs.contracts.forms.name_properties.NameDisambiguationPropertiesPartialEq.TheImpl.{eq-value as eq_properties}
use Rattle.csl_entry.proofs.PropertiesEqual.{properties_decide}
use Rattle.csl_context.specs.State.{State, left_state_view}
use Rattle.csl_context.specs.declared.context.LeftState.{LeftState}
use Rattle.csl_context.specs.declared.context.Rendered.{Rendered}
use Rattle.csl_context.specs.contracts.context.LeftStatePartialEq.TheImpl.{eq-value as eq_state}
use Rattle.csl_context.specs.contracts.context.RenderedPartialEq.TheImpl.{eq-value as eq_rendered}

truths : (p q : Bool) → Decides (beq p q) (p ≡ q)
truths p q = search rules

variables_decide : (xs ys : List Variable) → Decides (pointwise eq_variable.it xs ys) (xs ≡ ys)
variables_decide xs ys = slice_eq-Decides variable_decides xs ys _ refl

-- two ordered sets with the same variables
same_keys : (s t : BTreeSet Variable) → IsOrdered cmp_variable.it s → IsOrdered cmp_variable.it t → members_of s ≡ members_of t → s.keys ≡ t.keys
unfolding members_of
same_keys s t p q e = btree_set_from_contains total-law s t p q (λ v. ap (λ (set : Variable → Bool). set v) e) (λ u v h. (variable_ordered u v).0 h)

pub states_decide : (a b : LeftState) → IsOrdered cmp_variable.it a.suppressed → IsOrdered cmp_variable.it b.suppressed → Decides (eq_state.it a b) (left_state_view a ≡ left_state_view b)
unfolding members_of
states_decide a b p q = through _
    (both _ _ (variables_decide a.suppressed.keys b.suppressed.keys)
    (both _ _ (truths a.suppressing b.suppressing)
    (both _ _ (truths a.first_date_seen b.first_date_seen)
    (option_view eq_properties.it name_properties properties_decide a.first_names b.first_names))))
    (λ h. λ i. record { suppressed = λ v. list_any (is_at (cmp_variable.it v)) (h.0 i); suppressing = h.1.0 i; first_date_seen = h.1.1.0 i; first_names = h.1.1.1 i })
    (λ h. (same_keys a.suppressed b.suppressed p q (ap (λ (s : State). s.suppressed) h), (ap (λ (s : State). s.suppressing) h, (ap (λ (s : State). s.first_date_seen) h, ap (λ (s : State). s.first_names) h))))

pub renderings_decide : (a b : Rendered) → IsOrdered cmp_variable.it a.state.suppressed → IsOrdered cmp_variable.it b.state.suppressed → Decides (eq_rendered.it a b) ((tokens a.content ≡ tokens b.content) × (left_state_view a.state ≡ left_state_view b.state))
renderings_decide a b p q = both _ _ (children_decide a.content b.content) (states_decide a.state b.state p q)
