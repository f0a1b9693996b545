-- `==` of persons, and of lists of persons, is whether they show the same.
use Rattle.std.proofs.Common.{◌≡◌, Bool, ◌&&◌, List, [], ◌∷◌, map, Option, Some, None, option_map, refl}
use Rattle.std.specs.Prelude.{String, string_bytes}
use Rattle.std.specs.Cmp.Lexicographic.{pointwise}
use Rattle.std.specs.Option.{option_eq}
use Rattle.std.specs.Str.{bytes_eq}
use Rattle.std.specs.declared.alloc.Global.{Global}
use Rattle.lit_model.specs.declared.person.Person.{Person}
use Rattle.lit_model.specs.contracts.person.PersonPartialEq.TheImpl.{eq-value as eq_person}
use Rattle.lit_model.specs.Person.{person_view}
use Rattle.lit_model.specs.SamePerson.{same_person, same_persons}

both_same : (a b c d : Bool) → a ≡ b → c ≡ d → (a && c) ≡ (b && d)
both_same a b c d h k = λ i. h i && k i

optional_same : (x y : Option (String Global)) → option_eq (λ a b. bytes_eq (string_bytes a) (string_bytes b)) x y ≡ option_eq bytes_eq (option_map string_bytes x) (option_map string_bytes y)
optional_same None None = refl
optional_same None (Some y) = refl
optional_same (Some x) None = refl
optional_same (Some x) (Some y) = refl

pub person_same : (p q : Person) → eq_person.it p q ≡ same_person (person_view p) (person_view q)
person_same p q =
    both_same _ _ _ _ refl
    (both_same _ _ _ _ (optional_same p.given_name q.given_name)
    (both_same _ _ _ _ (optional_same p.prefix q.prefix)
    (both_same _ _ _ _ (optional_same p.suffix q.suffix)
    (both_same _ _ _ _ (optional_same p.alias q.alias) refl))))

pub persons_same : (ps qs : List Person) → pointwise eq_person.it ps qs ≡ same_persons (map person_view ps) (map person_view qs)
persons_same [] [] = refl
persons_same [] (q ∷ qs) = refl
persons_same (p ∷ ps) [] = refl
persons_same (p ∷ ps) (q ∷ qs) = both_same _ _ _ _ (person_same p q) (persons_same ps qs)
