-- `==` of pages compares their values.
use Rattle.std.proofs.Common.{◌≡◌, Bool, true, false, ◌&&◌, List, [], ◌∷◌, map, refl, rules, arith}
use Rattle.std.specs.Bool.{Decides}
use Rattle.std.specs.Cmp.Lexicographic.{pointwise}
use Rattle.std.proofs.lemmas.Grind.{common_steps}
use Rattle.std.proofs.lemmas.Bool.{false≢true}
use Rattle.lit_model.specs.Numeric.{NumericView, numeric_view}
use Rattle.lit_model.specs.Page.{escaped, range, part_view}
use Rattle.lit_model.specs.declared.numeric.Numeric.{Numeric}
use Rattle.lit_model.specs.declared.page.PageRangesPart.{PageRangesPart}
use Rattle.lit_model.specs.declared.page.PageRangesPart.TheVariants.{Ampersand, Comma, EscapedRange, SinglePage, Range}
use Rattle.lit_model.specs.contracts.numeric.NumericPartialEq.TheImpl.{eq-value as eq_numeric}
use Rattle.lit_model.specs.contracts.page.PageRangesPartPartialEq.TheImpl.{eq-value as eq_part}
use Rattle.lit_model.proofs.Equal.{value_decides}

pub numeric_decides : (a b : Numeric) → Decides (eq_numeric.it a b) (numeric_view a ≡ numeric_view b)
numeric_decides a b = let d = value_decides a.value b.value in search (rules, d)

pub pointwise_view : {A B : Type 0} (E : A → A → Bool) (v : A → B) → ((a b : A) → Decides (E a b) (v a ≡ v b)) → (xs ys : List A) → Decides (pointwise E xs ys) (map v xs ≡ map v ys)
pointwise_view E v d [] [] = (λ h. refl, λ h. refl)
pointwise_view E v d [] (y ∷ ys) = ((λ h. cc), λ h. cc)
pointwise_view E v d (x ∷ xs) [] = ((λ h. cc), λ h. cc)
pointwise_view E v d (x ∷ xs) (y ∷ ys) = let here = d x y in let rest = pointwise_view E v d xs ys in grind (arith, common_steps, here, rest)

escaped_decides : (p q : Bool) (x x' y y' : NumericView) → Decides p (x ≡ x') → Decides q (y ≡ y') → Decides (p && q) (escaped x y ≡ escaped x' y')
escaped_decides true true x x' y y' d e = (λ _. let h = d.0 refl in let k = e.0 refl in cc, λ _. refl)
escaped_decides true false x x' y y' d e = (λ h. absurd (false≢true h), λ h. e.1 cc)
escaped_decides false q x x' y y' d e = (λ h. absurd (false≢true h), λ h. d.1 cc)

range_decides : (p q : Bool) (x x' y y' : NumericView) → Decides p (x ≡ x') → Decides q (y ≡ y') → Decides (p && q) (range x y ≡ range x' y')
range_decides true true x x' y y' d e = (λ _. let h = d.0 refl in let k = e.0 refl in cc, λ _. refl)
range_decides true false x x' y y' d e = (λ h. absurd (false≢true h), λ h. e.1 cc)
range_decides false q x x' y y' d e = (λ h. absurd (false≢true h), λ h. d.1 cc)

pub part_decides : (a b : PageRangesPart) → Decides (eq_part.it a b) (part_view a ≡ part_view b)
part_decides Ampersand Ampersand = search rules
part_decides Ampersand Comma = search rules
part_decides Ampersand (EscapedRange a' b') = search rules
part_decides Ampersand (SinglePage a') = search rules
part_decides Ampersand (Range a' b') = search rules
part_decides Comma Ampersand = search rules
part_decides Comma Comma = search rules
part_decides Comma (EscapedRange a' b') = search rules
part_decides Comma (SinglePage a') = search rules
part_decides Comma (Range a' b') = search rules
part_decides (EscapedRange a b) Ampersand = search rules
part_decides (EscapedRange a b) Comma = search rules
part_decides (EscapedRange a b) (EscapedRange a' b') = escaped_decides (eq_numeric.it a a') (eq_numeric.it b b') (numeric_view a) (numeric_view a') (numeric_view b) (numeric_view b') (numeric_decides a a') (numeric_decides b b')
part_decides (EscapedRange a b) (SinglePage a') = search rules
part_decides (EscapedRange a b) (Range a' b') = search rules
part_decides (SinglePage a) Ampersand = search rules
part_decides (SinglePage a) Comma = search rules
part_decides (SinglePage a) (EscapedRange a' b') = search rules
part_decides (SinglePage a) (SinglePage a') = let d = numeric_decides a a' in search (rules, d)
part_decides (SinglePage a) (Range a' b') = search rules
part_decides (Range a b) Ampersand = search rules
part_decides (Range a b) Comma = search rules
part_decides (Range a b) (EscapedRange a' b') = search rules
part_decides (Range a b) (SinglePage a') = search rules
part_decides (Range a b) (Range a' b') = range_decides (eq_numeric.it a a') (eq_numeric.it b b') (numeric_view a) (numeric_view a') (numeric_view b) (numeric_view b') (numeric_decides a a') (numeric_decides b b')
