-- Numerals of equal length compare by their bytes as their numbers do by value.
use Rattle.std.proofs.Common.{◌≡◌, ℕ, zero, suc, ◌+◌, ◌-◌, ◌/◌, ◌%◌, ◌^◌, ◌<◌, ◌≤◌, Bool, true, false, List, [], ◌∷◌, ◌++◌, length, replicate, refl, sym, ap, ◌∙◌, arith, append_assoc, nat_lt}
use Rattle.std.specs.Cmp.Lexicographic.{slice_cmp}
use Rattle.std.specs.declared.cmp.Ordering.{Ordering}
use Rattle.std.specs.declared.cmp.Ordering.TheVariants.{Less, Equal, Greater}
use Rattle.std.specs.Ordering.{nat_cmp, ordering_then}
use Rattle.std.specs.Fmt.{decimal}
use Rattle.std.proofs.lemmas.Bool.Decides.{nat_tests}
use Rattle.std.proofs.lemmas.Fmt.{decimal_digit, decimal_step}
use Rattle.std.proofs.lemmas.List.{length-append, replicate-append-replicate}
use Rattle.lit_model.specs.NumericWrite.{with_zeros}

-- ---- lists side by side

then_assoc : (x y z : Ordering) → ordering_then x (ordering_then y z) ≡ ordering_then (ordering_then x y) z
then_assoc Less y z = refl
then_assoc Equal y z = refl
then_assoc Greater y z = refl

-- if the fronts have one length, they decide first
pub cmp_append : (xs bs ys cs : List ℕ) → length xs ≡ length ys → slice_cmp nat_cmp (xs ++ bs) (ys ++ cs) ≡ ordering_then (slice_cmp nat_cmp xs ys) (slice_cmp nat_cmp bs cs)
cmp_append [] bs [] cs e = refl
cmp_append [] bs (y ∷ ys) cs e = grind (arith, e)
cmp_append (x ∷ xs) bs [] cs e = grind (arith, e)
cmp_append (x ∷ xs) bs (y ∷ ys) cs e =
    ap (ordering_then (nat_cmp x y)) (cmp_append xs bs ys cs (omega (arith, e))) ∙ then_assoc (nat_cmp x y) (slice_cmp nat_cmp xs ys) (slice_cmp nat_cmp bs cs)

-- ---- digits

-- the given number of last digits of a number
abbrev pub last_digits : ℕ → ℕ → List ℕ
last_digits zero n = []
last_digits (suc w) n = last_digits w (n / 10) ++ (48 + n % 10) ∷ []

pub length_digits : (w n : ℕ) → length (last_digits w n) ≡ w
length_digits zero n = refl
length_digits (suc w) n = length-append (last_digits w (n / 10)) ((48 + n % 10) ∷ []) ∙ ap (λ k. k + 1) (length_digits w (n / 10)) ∙ omega arith

by_digit : (m n : ℕ) → ordering_then (nat_cmp (m / 10) (n / 10)) (ordering_then (nat_cmp (48 + m % 10) (48 + n % 10)) Equal) ≡ nat_cmp m n
by_digit m n = grind (arith, nat_tests)

pub digits_order : (w m n : ℕ) → m < 10 ^ w → n < 10 ^ w → slice_cmp nat_cmp (last_digits w m) (last_digits w n) ≡ nat_cmp m n
digits_order zero m n h k = grind (arith, nat_tests)
digits_order (suc w) m n h k =
    let same : length (last_digits w (m / 10)) ≡ length (last_digits w (n / 10)) = length_digits w (m / 10) ∙ sym (length_digits w (n / 10)) in
    cmp_append (last_digits w (m / 10)) ((48 + m % 10) ∷ []) (last_digits w (n / 10)) ((48 + n % 10) ∷ []) same
    ∙ ap (λ o. ordering_then o (ordering_then (nat_cmp (48 + m % 10) (48 + n % 10)) Equal)) (digits_order w (m / 10) (n / 10) (omega (arith, h)) (omega (arith, k)))
    ∙ by_digit m n

-- ---- a number's digits are its last ones

power_positive : (w : ℕ) → 1 ≤ 10 ^ w
power_positive zero = omega arith
power_positive (suc w) = omega (arith, power_positive w)

-- without leading zeros
pub decimal_digits : (w n : ℕ) → 10 ^ w ≤ n → n < 10 ^ (suc w) → n < 2 ^ 64 → decimal n ≡ last_digits (suc w) n
decimal_digits zero n low high fits =
    let small : n < 10 = omega (arith, high) in
    decimal_digit n small ∙ ap (λ d. (48 + d) ∷ []) (omega (arith, small))
decimal_digits (suc w) n low high fits =
    let many : 10 ≤ n = omega (arith, low, power_positive w) in
    let from : 10 ^ w ≤ n / 10 = omega (arith, low) in
    let to : n / 10 < 10 ^ (suc w) = omega (arith, high) in
    let rest : n / 10 < 2 ^ 64 = omega (arith, fits) in
    decimal_step n many fits ∙ ap (λ ds. ds ++ (48 + n % 10) ∷ []) (decimal_digits w (n / 10) from to rest)

-- ---- leading zeros

all_zeros : (w : ℕ) → last_digits w 0 ≡ replicate w 48
all_zeros zero = refl
all_zeros (suc w) =
    let one : w + 1 ≡ suc w = omega arith in
    ap (λ ds. ds ++ 48 ∷ []) (all_zeros w) ∙ replicate-append-replicate w 1 48 ∙ ap (λ k. replicate k 48) one

one_more : (w : ℕ) (ds : List ℕ) (d : ℕ) → with_zeros (suc w) (ds ++ d ∷ []) ≡ with_zeros w ds ++ d ∷ []
one_more w ds d =
    let longer : length (ds ++ d ∷ []) ≡ length ds + 1 = length-append ds (d ∷ []) in
    let missing : suc w - length (ds ++ d ∷ []) ≡ w - length ds = omega (arith, longer) in
    ap (λ k. replicate k 48 ++ (ds ++ d ∷ [])) missing ∙ sym (append_assoc (replicate (w - length ds) 48) ds (d ∷ []))

one_digit : (w n : ℕ) → n < 10 → with_zeros (suc w) (decimal n) ≡ last_digits (suc w) n
one_digit w n small =
    let none : n / 10 ≡ 0 = omega (arith, small) in
    let itself : n % 10 ≡ n = omega (arith, small) in
    let missing : suc w - 1 ≡ w = omega arith in
    ap (with_zeros (suc w)) (decimal_digit n small) ∙ ap (λ k. replicate k 48 ++ (48 + n) ∷ []) missing
    ∙ sym (ap (λ k. last_digits w k ++ (48 + n % 10) ∷ []) none ∙ ap (λ d. last_digits w 0 ++ (48 + d) ∷ []) itself ∙ ap (λ ds. ds ++ (48 + n) ∷ []) (all_zeros w))

-- from all digits but the last to all
by_size : (w n : ℕ) (b : Bool) → nat_lt n 10 ≡ b → n < 2 ^ 64 → with_zeros (suc w) (decimal (n / 10)) ≡ last_digits (suc w) (n / 10) → with_zeros (suc (suc w)) (decimal n) ≡ last_digits (suc (suc w)) n
by_size w n true e fits front = one_digit (suc w) n (grind (arith, nat_tests, e))
by_size w n false e fits front =
    let many : 10 ≤ n = grind (arith, nat_tests, e) in
    ap (with_zeros (suc (suc w))) (decimal_step n many fits)
    ∙ one_more (suc w) (decimal (n / 10)) (48 + n % 10)
    ∙ ap (λ ds. ds ++ (48 + n % 10) ∷ []) front

pub digits_behind_zeros : (w n : ℕ) → n < 10 ^ (suc w) → n < 2 ^ 64 → with_zeros (suc w) (decimal n) ≡ last_digits (suc w) n
digits_behind_zeros zero n high fits = one_digit zero n (omega (arith, high))
digits_behind_zeros (suc w) n high fits =
    by_size w n (nat_lt n 10) refl fits (digits_behind_zeros w (n / 10) (omega (arith, high)) (omega (arith, fits)))
