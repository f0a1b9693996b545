-- Each variable has a place of its own among the first 98, and each of these is a variable's. So the
-- bits of a set tell which variables it has.
use Rattle.std.proofs.Common.{◌≡◌, ℕ, zero, suc, ◌+◌, ◌-◌, ◌*◌, ◌^◌, ◌%◌, ◌<◌, ◌≤◌, min, max, ◌≢◌, ◌⊎◌, ◌↔◌, ◌==◌, ◌||◌, Bool, true, false, List, [], ◌∷◌, inl, inr, length, refl, ap, subst, sym, ◌∙◌, arith, bit_or, bit_and, bit_xor, eq-eqb, eqb-true}
use borrow.Enum.Match.{tag_small}
use denote.Enum.Bare.{Bare, tag_one}
use denote.Enum.Enum.{tag}
use denote.Enum.Declared.{Choice, Record, declared, intoss, rowss, tag_of}
use denote.Struct.Field.{Field}
use Rattle.std.proofs.lemmas.Bool.{cases_lt, cases_eq}
use Rattle.std.proofs.lemmas.Nat.Bits.{bit_at_or, bit_at_and, bit_at_xor, bit_at_ones, bit_at_ones_above, bit_at-zero, bit_at-lt, bit_at_set_same, bit_at_set_other, same_from_bits}
use Rattle.std.specs.BTreeMap.{is_at}
use Rattle.std.specs.Int.{bit_at, w128}
use Rattle.std.specs.Ordering.{is_eq}
use Rattle.std.specs.declared.cmp.Ordering.{Ordering}
use Rattle.std.specs.declared.cmp.Ordering.TheVariants.{Less, Equal, Greater}
use Rattle.csl_elements.specs.contracts.taxonomy.DateVariable as of_date
use Rattle.csl_elements.specs.contracts.taxonomy.NameVariable as of_name
use Rattle.csl_elements.specs.contracts.taxonomy.NumberVariable as of_number
use Rattle.csl_elements.specs.contracts.taxonomy.PageVariable as of_page
use Rattle.csl_elements.specs.contracts.taxonomy.StandardVariable as of_standard
use Rattle.csl_elements.specs.contracts.taxonomy.VariableOrd.TheImpl.{cmp-value as cmp_variable}
use Rattle.csl_elements.specs.contracts.taxonomy.VariablePartialEq.TheImpl.{eq-value as eq_variable}
use Rattle.csl_elements.specs.declared.taxonomy.DateVariable.{DateVariable}
use Rattle.csl_elements.specs.declared.taxonomy.NameVariable.{NameVariable}
use Rattle.csl_elements.specs.declared.taxonomy.NumberVariable.{NumberVariable}
use Rattle.csl_elements.specs.declared.taxonomy.PageVariable.{PageVariable}
use Rattle.csl_elements.specs.declared.taxonomy.PageVariable.TheVariants.{Page}
use Rattle.csl_elements.specs.declared.taxonomy.StandardVariable.{StandardVariable}
use Rattle.csl_elements.specs.declared.taxonomy.Variable.{Variable}
use Rattle.csl_elements.specs.declared.taxonomy.Variable.TheVariants as variable
use Rattle.csl_elements.specs.declared.variable_set.VariableSet.{VariableSet}
use Rattle.csl_elements.specs.VariableSet.{place, has, AreAlikeOn, with_variable}
use Rattle.csl_elements.proofs.Sets.{or_left, or_right}
use Rattle.csl_elements.proofs.Variables.{variable_decides, variable_ordered}

-- ---- no two variables share a place

standard_small : (v : StandardVariable) → tag_of of_standard.the_type v < 47
standard_small v = tag_small of_standard.the_type v

number_small : (v : NumberVariable) → tag_of of_number.the_type v < 17
number_small v = tag_small of_number.the_type v

date_small : (v : DateVariable) → tag_of of_date.the_type v < 6
date_small v = tag_small of_date.the_type v

name_small : (v : NameVariable) → tag_of of_name.the_type v < 27
name_small v = tag_small of_name.the_type v

pub place_bound : (v : Variable) → place v < 98
place_bound (variable.Standard v) = omega (arith, standard_small v)
place_bound (variable.Number v) = omega (arith, number_small v)
place_bound (variable.Page v) = omega arith
place_bound (variable.Date v) = omega (arith, date_small v)
place_bound (variable.Name v) = omega (arith, name_small v)

one_page : (v u : PageVariable) → v ≡ u
one_page Page Page = refl

pub place_one : (v u : Variable) → place v ≡ place u → v ≡ u
place_one (variable.Standard v) (variable.Standard u) e = ap variable.Standard (tag_one of_standard.the_type tt v u e)
place_one (variable.Standard v) (variable.Number u) e = absurd (omega (arith, standard_small v, e))
place_one (variable.Standard v) (variable.Page u) e = absurd (omega (arith, standard_small v, e))
place_one (variable.Standard v) (variable.Date u) e = absurd (omega (arith, standard_small v, e))
place_one (variable.Standard v) (variable.Name u) e = absurd (omega (arith, standard_small v, e))
place_one (variable.Number v) (variable.Standard u) e = absurd (omega (arith, standard_small u, e))
place_one (variable.Number v) (variable.Number u) e = ap variable.Number (tag_one of_number.the_type tt v u (omega (arith, e)))
place_one (variable.Number v) (variable.Page u) e = absurd (omega (arith, number_small v, e))
place_one (variable.Number v) (variable.Date u) e = absurd (omega (arith, number_small v, e))
place_one (variable.Number v) (variable.Name u) e = absurd (omega (arith, number_small v, e))
place_one (variable.Page v) (variable.Standard u) e = absurd (omega (arith, standard_small u, e))
place_one (variable.Page v) (variable.Number u) e = absurd (omega (arith, number_small u, e))
place_one (variable.Page v) (variable.Page u) e = ap variable.Page (one_page v u)
place_one (variable.Page v) (variable.Date u) e = absurd (omega (arith, e))
place_one (variable.Page v) (variable.Name u) e = absurd (omega (arith, e))
place_one (variable.Date v) (variable.Standard u) e = absurd (omega (arith, standard_small u, e))
place_one (variable.Date v) (variable.Number u) e = absurd (omega (arith, number_small u, e))
place_one (variable.Date v) (variable.Page u) e = absurd (omega (arith, e))
place_one (variable.Date v) (variable.Date u) e = ap variable.Date (tag_one of_date.the_type tt v u (omega (arith, e)))
place_one (variable.Date v) (variable.Name u) e = absurd (omega (arith, date_small v, e))
place_one (variable.Name v) (variable.Standard u) e = absurd (omega (arith, standard_small u, e))
place_one (variable.Name v) (variable.Number u) e = absurd (omega (arith, number_small u, e))
place_one (variable.Name v) (variable.Page u) e = absurd (omega (arith, e))
place_one (variable.Name v) (variable.Date u) e = absurd (omega (arith, date_small u, e))
place_one (variable.Name v) (variable.Name u) e = ap variable.Name (tag_one of_name.the_type tt v u (omega (arith, e)))

-- ---- each place is a variable's

bare_at : (Fss : List (List Field)) → Bare Fss → (i : ℕ) → i < length Fss → (c : Choice Fss) × (tag (rowss Fss) (intoss Fss c) ≡ i)
bare_at [] bare i low = absurd (omega (arith, low))
bare_at ([] ∷ Fss) bare zero low = (inl tt, refl)
bare_at ([] ∷ Fss) bare (suc i) low = let found = bare_at Fss bare i (omega (arith, low)) in (inr found.0, ap suc found.1)
bare_at ((F ∷ Fs) ∷ Fss) bare i low = absurd bare

value_at : (N : Record) → Bare N.parts → (i : ℕ) → i < length N.parts → (x : N.D) × (tag_of (declared N) x ≡ i)
value_at N bare i low =
    let found = bare_at N.parts bare i low in
    (N.make found.0, ap (λ c. tag (rowss N.parts) (intoss N.parts c)) (N.beta found.0) ∙ found.1)

abbrev IsTaken : ℕ → Type 0
IsTaken i = (v : Variable) × (place v ≡ i)

taken_from : (k i : ℕ) → k ≤ i → k + (i - k) ≡ i
taken_from k i low = omega (arith, low)

standard_at : (i : ℕ) → i < 47 → IsTaken i
standard_at i low = let found = value_at of_standard.enum tt i low in (variable.Standard found.0, found.1)

number_at : (i : ℕ) → 47 ≤ i → i < 64 → IsTaken i
number_at i from below = let found = value_at of_number.enum tt (i - 47) (omega (arith, from, below)) in (variable.Number found.0, ap (λ t. 47 + t) found.1 ∙ taken_from 47 i from)

date_at : (i : ℕ) → 65 ≤ i → i < 71 → IsTaken i
date_at i from below = let found = value_at of_date.enum tt (i - 65) (omega (arith, from, below)) in (variable.Date found.0, ap (λ t. 65 + t) found.1 ∙ taken_from 65 i from)

name_at : (i : ℕ) → 71 ≤ i → i < 98 → IsTaken i
name_at i from below = let found = value_at of_name.enum tt (i - 71) (omega (arith, from, below)) in (variable.Name found.0, ap (λ t. 71 + t) found.1 ∙ taken_from 71 i from)

above_number : (i : ℕ) → 64 ≤ i → i < 98 → IsTaken i
above_number i from below =
    elim (cases_lt i 65) as (λ _. IsTaken i) [
      | inl page ↦ (variable.Page Page, omega (arith, from, page))
      | inr on ↦ elim (cases_lt i 71) as (λ _. IsTaken i) [ inl date ↦ date_at i on date | inr name ↦ name_at i name below ]
    ]

pub variable_at : (i : ℕ) → i < 98 → IsTaken i
variable_at i below =
    elim (cases_lt i 47) as (λ _. IsTaken i) [
      | inl standard ↦ standard_at i standard
      | inr on ↦ elim (cases_lt i 64) as (λ _. IsTaken i) [ inl number ↦ number_at i on number | inr from ↦ above_number i from below ]
    ]

-- ---- booleans

pub both_or_none : (a b : Bool) → (a ≡ true → b ≡ true) → (b ≡ true → a ≡ true) → a ≡ b
both_or_none true b f g = sym (f refl)
both_or_none false true f g = g refl
both_or_none false false f g = refl

one_of : (a b : Bool) → (a || b) ≡ true → (a ≡ true) ⊎ (b ≡ true)
one_of true b h = inl refl
one_of false b h = inr h

-- ---- bits

same_bit : (x y : ℕ) → x < 2 → y < 2 → (x == 1) ≡ (y == 1) → x ≡ y
same_bit zero zero p q e = refl
same_bit zero (suc zero) p q e = cc
same_bit (suc zero) zero p q e = cc
same_bit (suc zero) (suc zero) p q e = refl
same_bit (suc (suc x)) y p q e = absurd (omega (arith, p))
same_bit x (suc (suc y)) p q e = absurd (omega (arith, q))

max_bit : (x y : ℕ) → x < 2 → y < 2 → (max x y == 1) ≡ ((x == 1) || (y == 1))
max_bit zero zero p q = refl
max_bit zero (suc zero) p q = refl
max_bit (suc zero) zero p q = refl
max_bit (suc zero) (suc zero) p q = refl
max_bit (suc (suc x)) y p q = absurd (omega (arith, p))
max_bit x (suc (suc y)) p q = absurd (omega (arith, q))

pub or_bit : (a b i : ℕ) → (bit_at (bit_or a b) i == 1) ≡ ((bit_at a i == 1) || (bit_at b i == 1))
or_bit a b i = ap (λ x. x == 1) (bit_at_or a b i) ∙ max_bit (bit_at a i) (bit_at b i) (bit_at-lt a i) (bit_at-lt b i)

-- a number with the bit of a variable set
module _ (bits : ℕ) (u : Variable) where
  abbrev More : ℕ
  More = bit_or bits (1 * 2 ^ place u % 340282366920938463463374607431768211456)

  within_width : place u < 128
  within_width = omega (arith, place_bound u)

  set_there : bit_at More (place u) ≡ 1
  set_there = bit_at_set_same w128 bits (place u) within_width

  set_elsewhere : (v : Variable) → place v ≢ place u → bit_at More (place v) ≡ bit_at bits (place v)
  set_elsewhere v apart = bit_at_set_other w128 bits (place u) within_width (place v) apart

  still_set : (i : ℕ) → bit_at bits i ≡ 1 → bit_at More i ≡ 1
  still_set i e = omega (arith, bit_at_or bits (1 * 2 ^ place u % 340282366920938463463374607431768211456) i, bit_at-lt More i, e)

  with_bit : (v : Variable) → ((bit_at More (place v) == 1) ≡ true) ↔ ((v ≡ u) ⊎ ((bit_at bits (place v) == 1) ≡ true))
  with_bit v = (
    λ h. elim (cases_eq (place v) (place u)) as (λ _. (v ≡ u) ⊎ ((bit_at bits (place v) == 1) ≡ true)) [
      | inl same ↦ inl (place_one v u same)
      | inr apart ↦ inr (ap (λ x. x == 1) (sym (set_elsewhere v apart)) ∙ h)
    ],
    λ h. elim h as (λ _. (bit_at More (place v) == 1) ≡ true) [
      | inl same ↦ ap (λ w. bit_at More (place w) == 1) same ∙ eq-eqb (bit_at More (place u)) 1 set_there
      | inr has ↦ eq-eqb (bit_at More (place v)) 1 (still_set (place v) (eqb-true (bit_at bits (place v)) 1 has))
    ],
  )

  -- the bit of a variable is set exactly if it is this variable, or was set before
  pub bit_with : (v : Variable) → (bit_at More (place v) == 1) ≡ (eq_variable.it v u || (bit_at bits (place v) == 1))
  bit_with v =
      let before = bit_at bits (place v) == 1 in
      both_or_none (bit_at More (place v) == 1) (eq_variable.it v u || before)
      (λ h. elim ((with_bit v).0 h) as (λ _. (eq_variable.it v u || before) ≡ true) [
        | inl same ↦ or_left (eq_variable.it v u) before ((variable_decides v u).1 same)
        | inr there ↦ or_right (eq_variable.it v u) before there
      ])
      (λ h. (with_bit v).1 (elim (one_of (eq_variable.it v u) before h) as (λ _. (v ≡ u) ⊎ (before ≡ true)) [ inl e ↦ inl ((variable_decides v u).0 e) | inr there ↦ inr there ]))

-- the bits at places of variables that differ in two numbers, of those of a third
module _ (a b r : ℕ) where
  abbrev pub Differ : ℕ
  Differ = bit_and (bit_and (bit_xor a b) r) 316912650057057350374175801343

  differ_bit : (i : ℕ) → bit_at Differ i ≡ min (min ((bit_at a i + bit_at b i) % 2) (bit_at r i)) (bit_at 316912650057057350374175801343 i)
  differ_bit i =
      bit_at_and (bit_and (bit_xor a b) r) 316912650057057350374175801343 i
      ∙ ap (λ x. min x (bit_at 316912650057057350374175801343 i)) (bit_at_and (bit_xor a b) r i ∙ ap (λ x. min x (bit_at r i)) (bit_at_xor a b i))

  same_at : Differ ≡ 0 → (i : ℕ) → i < 98 → bit_at r i ≡ 1 → bit_at a i ≡ bit_at b i
  same_at none i low there =
      let bit : bit_at Differ i ≡ 0 = ap (λ n. bit_at n i) none ∙ bit_at-zero i in
      let one : bit_at 316912650057057350374175801343 i ≡ 1 = bit_at_ones 98 i low in
      let x = bit_at a i in
      let y = bit_at b i in
      omega (arith, differ_bit i, bit, one, there, bit_at-lt a i, bit_at-lt b i)

  none_differ : ((i : ℕ) → i < 98 → bit_at r i ≡ 1 → bit_at a i ≡ bit_at b i) → Differ ≡ 0
  none_differ same =
      same_from_bits Differ 0
      (λ i. elim (cases_lt i 98) as (λ _. bit_at Differ i ≡ bit_at 0 i) [
        | inl low ↦ elim (cases_eq (bit_at r i) 1) as (λ _. bit_at Differ i ≡ bit_at 0 i) [
          | inl there ↦ omega (arith, differ_bit i, same i low there, bit_at-zero i)
          | inr not_there ↦ let none : bit_at r i ≡ 0 = omega (arith, bit_at-lt r i, not_there) in omega (arith, differ_bit i, none, bit_at-zero i)
        ]
        | inr high ↦ let none : bit_at 316912650057057350374175801343 i ≡ 0 = bit_at_ones_above 98 i high in omega (arith, differ_bit i, none, bit_at-zero i)
      ])

module _ (read a b : VariableSet) where
  pub alike_if : Differ a.places b.places read.places ≡ 0 → AreAlikeOn read a b
  unfolding has
  alike_if none v h = ap (λ x. x == 1) (same_at a.places b.places read.places none (place v) (place_bound v) (eqb-true (bit_at read.places (place v)) 1 h))

  same_of_variable : AreAlikeOn read a b → (v : Variable) (i : ℕ) → place v ≡ i → bit_at read.places i ≡ 1 → bit_at a.places i ≡ bit_at b.places i
  unfolding has
  same_of_variable alike v i at there =
      let here : bit_at read.places (place v) ≡ 1 = ap (λ j. bit_at read.places j) at ∙ there in
      ap (λ j. bit_at a.places j) (sym at)
      ∙ same_bit (bit_at a.places (place v)) (bit_at b.places (place v)) (bit_at-lt a.places (place v)) (bit_at-lt b.places (place v)) (alike v (eq-eqb (bit_at read.places (place v)) 1 here))
      ∙ ap (λ j. bit_at b.places j) at

  pub none_if : AreAlikeOn read a b → Differ a.places b.places read.places ≡ 0
  none_if alike = none_differ a.places b.places read.places (λ i low there. let found = variable_at i low in same_of_variable alike found.0 i found.1 there)

-- ---- the variables of an ordered set, one after another

is_equal : (r : Ordering) → is_eq r ≡ true → r ≡ Equal
is_equal Less h = cc
is_equal Equal h = refl
is_equal Greater h = cc

-- the order finds a variable exactly if it is the same
pub same_by_order : (v u : Variable) → is_at (cmp_variable.it v) u ≡ eq_variable.it v u
same_by_order v u =
    both_or_none (is_at (cmp_variable.it v) u) (eq_variable.it v u)
    (λ h. (variable_decides v u).1 ((variable_ordered v u).0 (is_equal (cmp_variable.it v u) h)))
    (λ h. ap is_eq ((variable_ordered v u).1 ((variable_decides v u).0 h)))

pub same_either_way : (v u : Variable) → eq_variable.it v u ≡ eq_variable.it u v
same_either_way v u =
    both_or_none (eq_variable.it v u) (eq_variable.it u v)
    (λ h. (variable_decides u v).1 (sym ((variable_decides v u).0 h)))
    (λ h. (variable_decides v u).1 (sym ((variable_decides u v).0 h)))

or_move : (a b c : Bool) → ((a || b) || c) ≡ (b || (a || c))
or_move true true c = refl
or_move true false c = refl
or_move false b c = refl

module _ (set more : VariableSet) (u v : Variable) (is : has more ≡ with_variable u (has set)) where
  has_more : has more v ≡ (is_at (cmp_variable.it v) u || has set v)
  unfolding with_variable
  has_more = ap (λ (one : Variable → Bool). one v) is ∙ ap (λ b. b || has set v) (sym (same_by_order v u))

  pub moved_in : (rest : Bool) → (has more v || rest) ≡ (has set v || (is_at (cmp_variable.it v) u || rest))
  moved_in rest = ap (λ b. b || rest) has_more ∙ or_move (is_at (cmp_variable.it v) u) (has set v) rest
