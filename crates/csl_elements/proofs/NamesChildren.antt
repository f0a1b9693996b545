-- A names node counts as childless exactly if its list of children is empty.
use Rattle.std.proofs.Common.{◌≡◌, Bool, true, false, ◌&&◌, nat_eq, List, [], ◌∷◌, map, length, suc, refl, sym, ◌∙◌, arith}
use Rattle.std.proofs.lemmas.Bool.Decides.{nat_tests}
use Rattle.csl_elements.specs.declared.element.Names.{Names, out-Names}
use Rattle.csl_elements.specs.declared.element.NamesChild.{NamesChild}
use Rattle.csl_elements.specs.Names.{NamesNode}
use Rattle.csl_elements.specs.Node.{is_childless}
use Rattle.csl_elements.specs.View.{NamesChildView, a_name, an_et_al, a_label, a_substitute, view_child, name_children, first_et_al, first_label, substitutes}
use Rattle.csl_elements.specs.NamesParts.{names_node, names_substitutes}

second : (a c d : Bool) → (a && false && c && d) ≡ false
second true c d = refl
second false c d = refl

third : (a b d : Bool) → (a && b && false && d) ≡ false
third true true d = refl
third true false d = refl
third false true d = refl
third false false d = refl

fourth : (a b c : Bool) → (a && b && c && false) ≡ false
fourth true true true = refl
fourth true true false = refl
fourth true false true = refl
fourth true false false = refl
fourth false true true = refl
fourth false true false = refl
fourth false false true = refl
fourth false false false = refl

more-than-none : {A : Type 0} (xs : List A) → nat_eq (suc (length xs)) 0 ≡ false
more-than-none xs = grind (arith, nat_tests)

by-children : (own : NamesNode) (cs : List NamesChildView) → is_childless (record own { name_children = name_children cs; et_al = first_et_al cs; label = first_label false cs }) (substitutes cs) ≡ nat_eq (length cs) 0
by-children own [] = refl
by-children own (a_name n ∷ cs) = sym (more-than-none cs)
by-children own (an_et_al e ∷ cs) = grind (arith, second, more-than-none)
by-children own (a_label l ∷ cs) = grind (arith, third, more-than-none)
by-children own (a_substitute ns ∷ cs) = grind (arith, fourth, more-than-none)

as-many : (cs : List NamesChild) → nat_eq (length (map view_child cs)) 0 ≡ nat_eq (length cs) 0
as-many [] = refl
as-many (c ∷ cs) = grind (arith, nat_tests)

pub childless : (n : Names) → is_childless (names_node n) (names_substitutes n) ≡ nat_eq (length (out-Names n).children.items) 0
childless n = by-children (names_node n) (map view_child (out-Names n).children.items) ∙ as-many (out-Names n).children.items
