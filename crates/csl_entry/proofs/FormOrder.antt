-- The order that decides which of two properties shows more is total.
use Rattle.std.proofs.Common.{◌≡◌, refl, ◌∙◌, ap, true, false, IsTrue, Option, None, Some, rules}
use Rattle.std.specs.Ordering.{ordering_reverse, is_le, is_gt}
use Rattle.std.specs.Cmp.{IsTotalOrder, nat_cmp_total, on_total, then_total, tied_itself}
use Rattle.std.specs.Cmp.Lexicographic.{lists_total, options_total}
use Rattle.std.specs.declared.cmp.Ordering.{Ordering}
use Rattle.std.specs.declared.cmp.Ordering.TheVariants.{Less, Equal, Greater}
use Rattle.std.specs.Option.{option_cmp}
use Rattle.csl_entry.specs.declared.forms.name_form.DisambiguatedNameForm.{DisambiguatedNameForm}
use Rattle.csl_entry.specs.contracts.forms.name_form.DisambiguatedNameFormOrd.TheImpl.{cmp-value as cmp_form}
use Rattle.csl_entry.specs.NameForm.{form_place, form_cmp}
use Rattle.csl_entry.specs.NameProperties.{NameProperties, all_forms, shown_count, properties_cmp}

-- the derived order of forms is `form_cmp`
form_cmp_is : (a b : DisambiguatedNameForm) → cmp_form.it a b ≡ form_cmp a b
form_cmp_is a b = search rules

pub option_form_cmp : (a b : Option DisambiguatedNameForm) → option_cmp cmp_form.it a b ≡ option_cmp form_cmp a b
option_form_cmp None None = refl
option_form_cmp None (Some b) = refl
option_form_cmp (Some a) None = refl
option_form_cmp (Some a) (Some b) = form_cmp_is a b

form_total : IsTotalOrder form_cmp
form_total = on_total form_place nat_cmp_total

properties_total : IsTotalOrder properties_cmp
properties_total = then_total (on_total shown_count nat_cmp_total) (on_total (λ (p : NameProperties). all_forms p.lists) (lists_total (options_total form_total)))

pub at_least_itself : (p : NameProperties) → IsTrue (is_le (properties_cmp p p))
at_least_itself p = ap is_le (tied_itself properties_total p)

pub at_least_both : (r : Ordering) → is_gt r ≡ false → IsTrue (is_le r)
at_least_both Less h = refl
at_least_both Equal h = refl
at_least_both Greater h = cc

reversed : (r : Ordering) → is_gt r ≡ true → IsTrue (is_le (ordering_reverse r))
reversed Less h = cc
reversed Equal h = cc
reversed Greater h = refl

pub at_least_other : (p q : NameProperties) → is_gt (properties_cmp p q) ≡ true → IsTrue (is_le (properties_cmp q p))
at_least_other p q h = ap is_le (properties_total.antisymm q p) ∙ reversed (properties_cmp p q) h
