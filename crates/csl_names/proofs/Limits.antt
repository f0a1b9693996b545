-- What the limits of a node do not hide of empty lists, they do not hide of any.
use Rattle.std.proofs.Common.{◌≡◌, ℕ, Bool, true, false, List, [], ◌∷◌, Option, Some, None, ◌&&◌, ◌==◌, refl, ap, sym}
use Rattle.std.specs.Bool.{OnFalse}
use Rattle.std.specs.List.{list_all}
use Rattle.std.specs.Option.{option_or}
use Rattle.csl_elements.specs.Names.{NameNode}
use Rattle.csl_names.specs.NamesLists.{PersonLists}
use Rattle.csl_names.specs.NamesForms.{hides_all, name_hides, each_hides}

and_false : (a b : Bool) → (a && true) ≡ false → (a && b) ≡ false
and_false true b h = cc
and_false false b h = refl

hides_none : (min first : Option ℕ) (ls : PersonLists) → hides_all min first [] ≡ false → hides_all min first ls ≡ false
hides_none None first ls h = refl
hides_none (Some min) None ls h = refl
hides_none (Some min) (Some first) ls h = and_false (first == 0) _ h

and_right : (a : Bool) {b : Bool} → b ≡ false → (a && b) ≡ false
and_right true h = h
and_right false h = refl

-- a test that holds only where another does, for each item
none_more : {A : Type 0} (p q : A → Bool) → ((x : A) → p x ≡ false → q x ≡ false) → (xs : List A) → list_all p xs ≡ false → list_all q xs ≡ false
none_more p q less [] h = cc
none_more p q less (x ∷ xs) h = elim (p x) as (λ b. p x ≡ b → (b && list_all p xs) ≡ false → list_all q (x ∷ xs) ≡ false) [
  | true ↦ λ e k. and_right (q x) (none_more p q less xs k)
  | false ↦ λ e k. ap (λ b. b && list_all q xs) (less x e)
] refl h

each_hides_none : (min first : Option ℕ) (ls : PersonLists) (ns : List NameNode) → each_hides min first [] ns ≡ false → each_hides min first ls ns ≡ false
each_hides_none min first ls [] h = hides_none min first ls h
each_hides_none min first ls (n ∷ ns) h =
    none_more (name_hides min first []) (name_hides min first ls) (λ n. hides_none (option_or n.options.et_al_min min) (option_or n.options.et_al_use_first first) ls) (n ∷ ns) h

pub never_hides : (b : Bool) (min first : Option ℕ) (ns : List NameNode) → b ≡ each_hides min first [] ns → OnFalse b ((ls : PersonLists) → each_hides min first ls ns ≡ false)
never_hides true min first ns e = tt
never_hides false min first ns e = λ ls. each_hides_none min first ls ns (sym e)
