-- The first of the terms of a name, by what the five sorts of terms have of this name.
use Rattle.std.proofs.Common.{◌≡◌, ℕ, ◌≤◌, List, sym, ap, ◌∙◌, arith}
use Rattle.std.specs.Prelude.{Option, Some, None, ◌↔◌}
use Rattle.csl_elements.specs.declared.taxonomy.NumberVariable.{NumberVariable}
use Rattle.csl_elements.specs.declared.taxonomy.PageVariable.{PageVariable}
use Rattle.csl_elements.specs.declared.taxonomy.NameVariable.{NameVariable}
use Rattle.csl_elements.specs.declared.taxonomy.Locator.{Locator}
use Rattle.csl_elements.specs.declared.term.OtherTerm.{OtherTerm}
use Rattle.csl_elements.specs.declared.term.Term.{Term}
use Rattle.csl_elements.specs.declared.term.Term.TheVariants as terms
use Rattle.csl_elements.specs.VariableNames.{number_name, page_name}
use Rattle.csl_elements.specs.LocatorNames.{locator_name}
use Rattle.csl_elements.specs.TermNames.{role_name, other_name, term_name, place, IsTermOf}
use Rattle.csl_elements.proofs.Injective.{some_injective}

-- a term of this name that comes before its others, and is the only one of its place, is the first
first_is : (name : List ℕ) (s : Term) → term_name s ≡ Some name → ((u : Term) → term_name u ≡ Some name → place s ≤ place u) → ((t : Term) → term_name t ≡ Some name → place t ≤ place s → s ≡ t) → (t : Term) → (Some s ≡ Some t) ↔ IsTermOf name t
first_is name s named least one t = (
  λ p. let e : s ≡ t = some_injective s t p in (sym (ap term_name e) ∙ named, λ u. λ h. let same : place s ≡ place t = ap place e in let below : place s ≤ place u = least u h in omega arith),
  λ h. ap Some (one t h.0 (h.1 s named)),
)

name_least : (n name : List ℕ) → n ≡ name → (a : Option NameVariable) (w : NameVariable) → a ≡ Some w → ((v : NameVariable) → (a ≡ Some v) ↔ (n ≡ role_name v)) → (u : Term) → term_name u ≡ Some name → 0 ≤ place u
name_least n name e a w am al (terms.Name v) h = let e : 0 ≤ 0 = omega arith in e
name_least n name e a w am al (terms.Number v) h = let e : 0 ≤ 1 = omega arith in e
name_least n name e a w am al (terms.Page v) h = let e : 0 ≤ 2 = omega arith in e
name_least n name e a w am al (terms.Locator v) h = let e : 0 ≤ 3 = omega arith in e
name_least n name e a w am al (terms.Other v) h = let e : 0 ≤ 4 = omega arith in e

name_one : (n name : List ℕ) → n ≡ name → (a : Option NameVariable) (w : NameVariable) → a ≡ Some w → ((v : NameVariable) → (a ≡ Some v) ↔ (n ≡ role_name v)) → (t : Term) → term_name t ≡ Some name → place t ≤ 0 → terms.Name w ≡ t
name_one n name e a w am al (terms.Name v) h p = ap terms.Name (some_injective w v (sym am ∙ (al v).1 (e ∙ sym (some_injective (role_name v) name h))))
name_one n name e a w am al (terms.Number v) h p = let q : 1 ≤ 0 = p in let no : ⊥ = omega arith in absurd no
name_one n name e a w am al (terms.Page v) h p = let q : 2 ≤ 0 = p in let no : ⊥ = omega arith in absurd no
name_one n name e a w am al (terms.Locator v) h p = let q : 3 ≤ 0 = p in let no : ⊥ = omega arith in absurd no
name_one n name e a w am al (terms.Other v) h p = let q : 4 ≤ 0 = p in let no : ⊥ = omega arith in absurd no

pub name_first : (n name : List ℕ) → n ≡ name → (a : Option NameVariable) (w : NameVariable) → a ≡ Some w → ((v : NameVariable) → (a ≡ Some v) ↔ (n ≡ role_name v)) → (t : Term) → (Some (terms.Name w) ≡ Some t) ↔ IsTermOf name t
name_first n name e a w am al = first_is name (terms.Name w) (ap Some (sym ((al w).0 am) ∙ e)) (name_least n name e a w am al) (name_one n name e a w am al)

number_least : (n name : List ℕ) → n ≡ name → (a : Option NameVariable) → a ≡ None → ((v : NameVariable) → (a ≡ Some v) ↔ (n ≡ role_name v)) → (b : Option NumberVariable) (w : NumberVariable) → b ≡ Some w → ((v : NumberVariable) → (b ≡ Some v) ↔ (n ≡ number_name v)) → (u : Term) → term_name u ≡ Some name → 1 ≤ place u
number_least n name e a an al b w bm bl (terms.Name v) h = let none : None ≡ Some v = sym an ∙ (al v).1 (e ∙ sym (some_injective (role_name v) name h)) in cc
number_least n name e a an al b w bm bl (terms.Number v) h = let e : 1 ≤ 1 = omega arith in e
number_least n name e a an al b w bm bl (terms.Page v) h = let e : 1 ≤ 2 = omega arith in e
number_least n name e a an al b w bm bl (terms.Locator v) h = let e : 1 ≤ 3 = omega arith in e
number_least n name e a an al b w bm bl (terms.Other v) h = let e : 1 ≤ 4 = omega arith in e

number_one : (n name : List ℕ) → n ≡ name → (a : Option NameVariable) → a ≡ None → ((v : NameVariable) → (a ≡ Some v) ↔ (n ≡ role_name v)) → (b : Option NumberVariable) (w : NumberVariable) → b ≡ Some w → ((v : NumberVariable) → (b ≡ Some v) ↔ (n ≡ number_name v)) → (t : Term) → term_name t ≡ Some name → place t ≤ 1 → terms.Number w ≡ t
number_one n name e a an al b w bm bl (terms.Name v) h p = let none : None ≡ Some v = sym an ∙ (al v).1 (e ∙ sym (some_injective (role_name v) name h)) in cc
number_one n name e a an al b w bm bl (terms.Number v) h p = ap terms.Number (some_injective w v (sym bm ∙ (bl v).1 (e ∙ sym (some_injective (number_name v) name h))))
number_one n name e a an al b w bm bl (terms.Page v) h p = let q : 2 ≤ 1 = p in let no : ⊥ = omega arith in absurd no
number_one n name e a an al b w bm bl (terms.Locator v) h p = let q : 3 ≤ 1 = p in let no : ⊥ = omega arith in absurd no
number_one n name e a an al b w bm bl (terms.Other v) h p = let q : 4 ≤ 1 = p in let no : ⊥ = omega arith in absurd no

pub number_first : (n name : List ℕ) → n ≡ name → (a : Option NameVariable) → a ≡ None → ((v : NameVariable) → (a ≡ Some v) ↔ (n ≡ role_name v)) → (b : Option NumberVariable) (w : NumberVariable) → b ≡ Some w → ((v : NumberVariable) → (b ≡ Some v) ↔ (n ≡ number_name v)) → (t : Term) → (Some (terms.Number w) ≡ Some t) ↔ IsTermOf name t
number_first n name e a an al b w bm bl = first_is name (terms.Number w) (ap Some (sym ((bl w).0 bm) ∙ e)) (number_least n name e a an al b w bm bl) (number_one n name e a an al b w bm bl)

page_least : (n name : List ℕ) → n ≡ name → (a : Option NameVariable) → a ≡ None → ((v : NameVariable) → (a ≡ Some v) ↔ (n ≡ role_name v)) → (b : Option NumberVariable) → b ≡ None → ((v : NumberVariable) → (b ≡ Some v) ↔ (n ≡ number_name v)) → (c : Option PageVariable) (w : PageVariable) → c ≡ Some w → ((v : PageVariable) → (c ≡ Some v) ↔ (n ≡ page_name v)) → (u : Term) → term_name u ≡ Some name → 2 ≤ place u
page_least n name e a an al b bn bl c w cm cl (terms.Name v) h = let none : None ≡ Some v = sym an ∙ (al v).1 (e ∙ sym (some_injective (role_name v) name h)) in cc
page_least n name e a an al b bn bl c w cm cl (terms.Number v) h = let none : None ≡ Some v = sym bn ∙ (bl v).1 (e ∙ sym (some_injective (number_name v) name h)) in cc
page_least n name e a an al b bn bl c w cm cl (terms.Page v) h = let e : 2 ≤ 2 = omega arith in e
page_least n name e a an al b bn bl c w cm cl (terms.Locator v) h = let e : 2 ≤ 3 = omega arith in e
page_least n name e a an al b bn bl c w cm cl (terms.Other v) h = let e : 2 ≤ 4 = omega arith in e

page_one : (n name : List ℕ) → n ≡ name → (a : Option NameVariable) → a ≡ None → ((v : NameVariable) → (a ≡ Some v) ↔ (n ≡ role_name v)) → (b : Option NumberVariable) → b ≡ None → ((v : NumberVariable) → (b ≡ Some v) ↔ (n ≡ number_name v)) → (c : Option PageVariable) (w : PageVariable) → c ≡ Some w → ((v : PageVariable) → (c ≡ Some v) ↔ (n ≡ page_name v)) → (t : Term) → term_name t ≡ Some name → place t ≤ 2 → terms.Page w ≡ t
page_one n name e a an al b bn bl c w cm cl (terms.Name v) h p = let none : None ≡ Some v = sym an ∙ (al v).1 (e ∙ sym (some_injective (role_name v) name h)) in cc
page_one n name e a an al b bn bl c w cm cl (terms.Number v) h p = let none : None ≡ Some v = sym bn ∙ (bl v).1 (e ∙ sym (some_injective (number_name v) name h)) in cc
page_one n name e a an al b bn bl c w cm cl (terms.Page v) h p = ap terms.Page (some_injective w v (sym cm ∙ (cl v).1 (e ∙ sym (some_injective (page_name v) name h))))
page_one n name e a an al b bn bl c w cm cl (terms.Locator v) h p = let q : 3 ≤ 2 = p in let no : ⊥ = omega arith in absurd no
page_one n name e a an al b bn bl c w cm cl (terms.Other v) h p = let q : 4 ≤ 2 = p in let no : ⊥ = omega arith in absurd no

pub page_first : (n name : List ℕ) → n ≡ name → (a : Option NameVariable) → a ≡ None → ((v : NameVariable) → (a ≡ Some v) ↔ (n ≡ role_name v)) → (b : Option NumberVariable) → b ≡ None → ((v : NumberVariable) → (b ≡ Some v) ↔ (n ≡ number_name v)) → (c : Option PageVariable) (w : PageVariable) → c ≡ Some w → ((v : PageVariable) → (c ≡ Some v) ↔ (n ≡ page_name v)) → (t : Term) → (Some (terms.Page w) ≡ Some t) ↔ IsTermOf name t
page_first n name e a an al b bn bl c w cm cl = first_is name (terms.Page w) (ap Some (sym ((cl w).0 cm) ∙ e)) (page_least n name e a an al b bn bl c w cm cl) (page_one n name e a an al b bn bl c w cm cl)

locator_least : (n name : List ℕ) → n ≡ name → (a : Option NameVariable) → a ≡ None → ((v : NameVariable) → (a ≡ Some v) ↔ (n ≡ role_name v)) → (b : Option NumberVariable) → b ≡ None → ((v : NumberVariable) → (b ≡ Some v) ↔ (n ≡ number_name v)) → (c : Option PageVariable) → c ≡ None → ((v : PageVariable) → (c ≡ Some v) ↔ (n ≡ page_name v)) → (d : Option Locator) (w : Locator) → d ≡ Some w → ((v : Locator) → (d ≡ Some v) ↔ (n ≡ locator_name v)) → (u : Term) → term_name u ≡ Some name → 3 ≤ place u
locator_least n name e a an al b bn bl c cn cl d w dm dl (terms.Name v) h = let none : None ≡ Some v = sym an ∙ (al v).1 (e ∙ sym (some_injective (role_name v) name h)) in cc
locator_least n name e a an al b bn bl c cn cl d w dm dl (terms.Number v) h = let none : None ≡ Some v = sym bn ∙ (bl v).1 (e ∙ sym (some_injective (number_name v) name h)) in cc
locator_least n name e a an al b bn bl c cn cl d w dm dl (terms.Page v) h = let none : None ≡ Some v = sym cn ∙ (cl v).1 (e ∙ sym (some_injective (page_name v) name h)) in cc
locator_least n name e a an al b bn bl c cn cl d w dm dl (terms.Locator v) h = let e : 3 ≤ 3 = omega arith in e
locator_least n name e a an al b bn bl c cn cl d w dm dl (terms.Other v) h = let e : 3 ≤ 4 = omega arith in e

locator_one : (n name : List ℕ) → n ≡ name → (a : Option NameVariable) → a ≡ None → ((v : NameVariable) → (a ≡ Some v) ↔ (n ≡ role_name v)) → (b : Option NumberVariable) → b ≡ None → ((v : NumberVariable) → (b ≡ Some v) ↔ (n ≡ number_name v)) → (c : Option PageVariable) → c ≡ None → ((v : PageVariable) → (c ≡ Some v) ↔ (n ≡ page_name v)) → (d : Option Locator) (w : Locator) → d ≡ Some w → ((v : Locator) → (d ≡ Some v) ↔ (n ≡ locator_name v)) → (t : Term) → term_name t ≡ Some name → place t ≤ 3 → terms.Locator w ≡ t
locator_one n name e a an al b bn bl c cn cl d w dm dl (terms.Name v) h p = let none : None ≡ Some v = sym an ∙ (al v).1 (e ∙ sym (some_injective (role_name v) name h)) in cc
locator_one n name e a an al b bn bl c cn cl d w dm dl (terms.Number v) h p = let none : None ≡ Some v = sym bn ∙ (bl v).1 (e ∙ sym (some_injective (number_name v) name h)) in cc
locator_one n name e a an al b bn bl c cn cl d w dm dl (terms.Page v) h p = let none : None ≡ Some v = sym cn ∙ (cl v).1 (e ∙ sym (some_injective (page_name v) name h)) in cc
locator_one n name e a an al b bn bl c cn cl d w dm dl (terms.Locator v) h p = ap terms.Locator (some_injective w v (sym dm ∙ (dl v).1 (e ∙ sym (some_injective (locator_name v) name h))))
locator_one n name e a an al b bn bl c cn cl d w dm dl (terms.Other v) h p = let q : 4 ≤ 3 = p in let no : ⊥ = omega arith in absurd no

pub locator_first : (n name : List ℕ) → n ≡ name → (a : Option NameVariable) → a ≡ None → ((v : NameVariable) → (a ≡ Some v) ↔ (n ≡ role_name v)) → (b : Option NumberVariable) → b ≡ None → ((v : NumberVariable) → (b ≡ Some v) ↔ (n ≡ number_name v)) → (c : Option PageVariable) → c ≡ None → ((v : PageVariable) → (c ≡ Some v) ↔ (n ≡ page_name v)) → (d : Option Locator) (w : Locator) → d ≡ Some w → ((v : Locator) → (d ≡ Some v) ↔ (n ≡ locator_name v)) → (t : Term) → (Some (terms.Locator w) ≡ Some t) ↔ IsTermOf name t
locator_first n name e a an al b bn bl c cn cl d w dm dl = first_is name (terms.Locator w) (ap Some (sym ((dl w).0 dm) ∙ e)) (locator_least n name e a an al b bn bl c cn cl d w dm dl) (locator_one n name e a an al b bn bl c cn cl d w dm dl)

other_least : (n name : List ℕ) → n ≡ name → (a : Option NameVariable) → a ≡ None → ((v : NameVariable) → (a ≡ Some v) ↔ (n ≡ role_name v)) → (b : Option NumberVariable) → b ≡ None → ((v : NumberVariable) → (b ≡ Some v) ↔ (n ≡ number_name v)) → (c : Option PageVariable) → c ≡ None → ((v : PageVariable) → (c ≡ Some v) ↔ (n ≡ page_name v)) → (d : Option Locator) → d ≡ None → ((v : Locator) → (d ≡ Some v) ↔ (n ≡ locator_name v)) → (o : Option OtherTerm) (w : OtherTerm) → o ≡ Some w → ((x : OtherTerm) → (o ≡ Some x) ↔ (other_name x ≡ Some n)) → (u : Term) → term_name u ≡ Some name → 4 ≤ place u
other_least n name e a an al b bn bl c cn cl d dn dl o w om ol (terms.Name v) h = let none : None ≡ Some v = sym an ∙ (al v).1 (e ∙ sym (some_injective (role_name v) name h)) in cc
other_least n name e a an al b bn bl c cn cl d dn dl o w om ol (terms.Number v) h = let none : None ≡ Some v = sym bn ∙ (bl v).1 (e ∙ sym (some_injective (number_name v) name h)) in cc
other_least n name e a an al b bn bl c cn cl d dn dl o w om ol (terms.Page v) h = let none : None ≡ Some v = sym cn ∙ (cl v).1 (e ∙ sym (some_injective (page_name v) name h)) in cc
other_least n name e a an al b bn bl c cn cl d dn dl o w om ol (terms.Locator v) h = let none : None ≡ Some v = sym dn ∙ (dl v).1 (e ∙ sym (some_injective (locator_name v) name h)) in cc
other_least n name e a an al b bn bl c cn cl d dn dl o w om ol (terms.Other v) h = let e : 4 ≤ 4 = omega arith in e

other_one : (n name : List ℕ) → n ≡ name → (a : Option NameVariable) → a ≡ None → ((v : NameVariable) → (a ≡ Some v) ↔ (n ≡ role_name v)) → (b : Option NumberVariable) → b ≡ None → ((v : NumberVariable) → (b ≡ Some v) ↔ (n ≡ number_name v)) → (c : Option PageVariable) → c ≡ None → ((v : PageVariable) → (c ≡ Some v) ↔ (n ≡ page_name v)) → (d : Option Locator) → d ≡ None → ((v : Locator) → (d ≡ Some v) ↔ (n ≡ locator_name v)) → (o : Option OtherTerm) (w : OtherTerm) → o ≡ Some w → ((x : OtherTerm) → (o ≡ Some x) ↔ (other_name x ≡ Some n)) → (t : Term) → term_name t ≡ Some name → place t ≤ 4 → terms.Other w ≡ t
other_one n name e a an al b bn bl c cn cl d dn dl o w om ol (terms.Name v) h p = let none : None ≡ Some v = sym an ∙ (al v).1 (e ∙ sym (some_injective (role_name v) name h)) in cc
other_one n name e a an al b bn bl c cn cl d dn dl o w om ol (terms.Number v) h p = let none : None ≡ Some v = sym bn ∙ (bl v).1 (e ∙ sym (some_injective (number_name v) name h)) in cc
other_one n name e a an al b bn bl c cn cl d dn dl o w om ol (terms.Page v) h p = let none : None ≡ Some v = sym cn ∙ (cl v).1 (e ∙ sym (some_injective (page_name v) name h)) in cc
other_one n name e a an al b bn bl c cn cl d dn dl o w om ol (terms.Locator v) h p = let none : None ≡ Some v = sym dn ∙ (dl v).1 (e ∙ sym (some_injective (locator_name v) name h)) in cc
other_one n name e a an al b bn bl c cn cl d dn dl o w om ol (terms.Other v) h p = ap terms.Other (some_injective w v (sym om ∙ (ol v).1 (h ∙ ap Some (sym e))))

pub other_first : (n name : List ℕ) → n ≡ name → (a : Option NameVariable) → a ≡ None → ((v : NameVariable) → (a ≡ Some v) ↔ (n ≡ role_name v)) → (b : Option NumberVariable) → b ≡ None → ((v : NumberVariable) → (b ≡ Some v) ↔ (n ≡ number_name v)) → (c : Option PageVariable) → c ≡ None → ((v : PageVariable) → (c ≡ Some v) ↔ (n ≡ page_name v)) → (d : Option Locator) → d ≡ None → ((v : Locator) → (d ≡ Some v) ↔ (n ≡ locator_name v)) → (o : Option OtherTerm) (w : OtherTerm) → o ≡ Some w → ((x : OtherTerm) → (o ≡ Some x) ↔ (other_name x ≡ Some n)) → (t : Term) → (Some (terms.Other w) ≡ Some t) ↔ IsTermOf name t
other_first n name e a an al b bn bl c cn cl d dn dl o w om ol = first_is name (terms.Other w) ((ol w).0 om ∙ ap Some e) (other_least n name e a an al b bn bl c cn cl d dn dl o w om ol) (other_one n name e a an al b bn bl c cn cl d dn dl o w om ol)

no_term : (n name : List ℕ) → n ≡ name → (a : Option NameVariable) → a ≡ None → ((v : NameVariable) → (a ≡ Some v) ↔ (n ≡ role_name v)) → (b : Option NumberVariable) → b ≡ None → ((v : NumberVariable) → (b ≡ Some v) ↔ (n ≡ number_name v)) → (c : Option PageVariable) → c ≡ None → ((v : PageVariable) → (c ≡ Some v) ↔ (n ≡ page_name v)) → (d : Option Locator) → d ≡ None → ((v : Locator) → (d ≡ Some v) ↔ (n ≡ locator_name v)) → (o : Option OtherTerm) → o ≡ None → ((x : OtherTerm) → (o ≡ Some x) ↔ (other_name x ≡ Some n)) → (t : Term) → term_name t ≡ Some name → None ≡ Some t
no_term n name e a an al b bn bl c cn cl d dn dl o on ol (terms.Name v) h = let none : None ≡ Some v = sym an ∙ (al v).1 (e ∙ sym (some_injective (role_name v) name h)) in cc
no_term n name e a an al b bn bl c cn cl d dn dl o on ol (terms.Number v) h = let none : None ≡ Some v = sym bn ∙ (bl v).1 (e ∙ sym (some_injective (number_name v) name h)) in cc
no_term n name e a an al b bn bl c cn cl d dn dl o on ol (terms.Page v) h = let none : None ≡ Some v = sym cn ∙ (cl v).1 (e ∙ sym (some_injective (page_name v) name h)) in cc
no_term n name e a an al b bn bl c cn cl d dn dl o on ol (terms.Locator v) h = let none : None ≡ Some v = sym dn ∙ (dl v).1 (e ∙ sym (some_injective (locator_name v) name h)) in cc
no_term n name e a an al b bn bl c cn cl d dn dl o on ol (terms.Other v) h = let none : None ≡ Some v = sym on ∙ (ol v).1 (h ∙ ap Some (sym e)) in cc

pub none_first : (n name : List ℕ) → n ≡ name → (a : Option NameVariable) → a ≡ None → ((v : NameVariable) → (a ≡ Some v) ↔ (n ≡ role_name v)) → (b : Option NumberVariable) → b ≡ None → ((v : NumberVariable) → (b ≡ Some v) ↔ (n ≡ number_name v)) → (c : Option PageVariable) → c ≡ None → ((v : PageVariable) → (c ≡ Some v) ↔ (n ≡ page_name v)) → (d : Option Locator) → d ≡ None → ((v : Locator) → (d ≡ Some v) ↔ (n ≡ locator_name v)) → (o : Option OtherTerm) → o ≡ None → ((x : OtherTerm) → (o ≡ Some x) ↔ (other_name x ≡ Some n)) → (t : Term) → (None ≡ Some t) ↔ IsTermOf name t
none_first n name e a an al b bn bl c cn cl d dn dl o on ol t = (λ p. cc, λ h. no_term n name e a an al b bn bl c cn cl d dn dl o on ol t h.0)

-- for a search through the five sorts in this order
pub ruleset first_term_laws = (name_first, number_first, page_first, locator_first, other_first, none_first)
