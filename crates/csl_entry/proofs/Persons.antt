-- Persons by the data that they show.
use Rattle.std.proofs.Common.{◌≡◌, true, false, List, [], ◌∷◌, map, length, ap, ◌∙◌, sym, refl, arith, Bor}
use Rattle.std.specs.Prelude.{Bool, ◌&&◌}
use Rattle.std.specs.Bool.{Decides}
use Rattle.std.specs.List.{list_any}
use Rattle.std.specs.Cmp.Lexicographic.{pointwise}
use Rattle.std.specs.Cow.{cow_value}
use Rattle.std.specs.declared.borrow.Cow.{Cow}
use Rattle.std.proofs.lemmas.Simd.{map-map}
use Rattle.lit_model.specs.declared.person.Person.{Person}
use Rattle.lit_model.specs.contracts.person.PersonPartialEq.TheImpl.{eq-value as eq_person}
use Rattle.lit_model.specs.Person.{PersonView, person_view}
use Rattle.lit_model.specs.SamePerson.{same_person, same_persons}
use Rattle.lit_model.proofs.PageEqual.{pointwise_view}
use Rattle.lit_model.proofs.PersonEqual.{person_decides}
use Rattle.lit_model.proofs.SamePersons.{person_same}
use Rattle.csl_entry.specs.Answers.{cow_view}
use Rattle.csl_entry.specs.EntryName.{is_one_of}

pub named_each : (ps : List (Bor Person)) (qs : List Person) → map (λ p. p.now) ps ≡ qs → map (λ p. person_view p.now) ps ≡ map person_view qs
named_each ps qs same = sym (map-map person_view (λ (p : Bor Person). p.now) ps) ∙ ap (map person_view) same

pub one_of_same : (ps : List Person) (p : Person) → list_any (λ q. eq_person.it q p) ps ≡ is_one_of ps p
one_of_same ps p = λ i. list_any (λ q. person_same q p i) ps

-- `==` of persons that may be borrowed compares what they show

both_same : (a b c d : Bool) → a ≡ b → c ≡ d → (a && c) ≡ (b && d)
both_same a b c d h k = λ i. h i && k i

abbrev equal_behind : Cow Person → Cow Person → Bool
equal_behind c d = eq_person.it (cow_value c) (cow_value d)

pub persons_decide : (ps qs : List (Cow Person)) → Decides (pointwise equal_behind ps qs) (map (cow_view person_view) ps ≡ map (cow_view person_view) qs)
persons_decide ps qs = pointwise_view equal_behind (cow_view person_view) (λ c d. person_decides (cow_value c) (cow_value d)) ps qs

pub persons_same : (ps qs : List (Cow Person)) → pointwise equal_behind ps qs ≡ same_persons (map (cow_view person_view) ps) (map (cow_view person_view) qs)
persons_same [] [] = refl
persons_same [] (q ∷ qs) = refl
persons_same (p ∷ ps) [] = refl
persons_same (p ∷ ps) (q ∷ qs) = both_same _ _ _ _ (person_same (cow_value p) (cow_value q)) (persons_same ps qs)

and_false : (b : Bool) → (b && false) ≡ false
and_false true = refl
and_false false = refl

-- lists of different lengths do not show the same
pub persons_apart : (xs ys : List PersonView) → (length xs ≡ length ys → ⊥) → same_persons xs ys ≡ false
persons_apart [] [] h = absurd (h refl)
persons_apart [] (y ∷ ys) h = refl
persons_apart (x ∷ xs) [] h = refl
persons_apart (x ∷ xs) (y ∷ ys) h = ap (λ b. same_person x y && b) (persons_apart xs ys (λ e. h (omega (arith, e)))) ∙ and_false (same_person x y)
