-- The bytes of full sort keys are in the order of time.
use Rattle.std.proofs.Common.{◌≡◌, [], ℕ, ℤ, pos, negsuc, ◌+◌, ◌-◌, ◌^◌, ◌<◌, ◌≤◌, ◌+ℤ◌, List, ◌∷◌, ◌++◌, length, replicate, Option, Some, None, refl, sym, ap, ◌∙◌, arith, append-nil}
use Rattle.std.specs.Cmp.Lexicographic.{slice_cmp}
use Rattle.std.specs.Option.{option_cmp, ForSome}
use Rattle.std.specs.Ordering.{nat_cmp, int_cmp, ordering_then}
use Rattle.std.specs.Fmt.{decimal}
use Rattle.std.proofs.lemmas.Bool.Decides.{nat_tests}
use Rattle.std.proofs.lemmas.Int.{ints}
use Rattle.std.specs.declared.cmp.Ordering.TheVariants.{Equal}
use Rattle.lit_model.specs.Date.{DateView}
use Rattle.csl_nodes.specs.DateKey.{nine_places, place_key, year_key, full_key, HasKeyYear, time_order}
use Rattle.csl_nodes.proofs.DigitOrder.{cmp_append, last_digits, length_digits, digits_order, decimal_digits, digits_behind_zeros}

-- ---- months and days

-- the number of a month or a day, 0 if there is none
abbrev pub place : Option ℕ → ℕ
place None = 0
place (Some n) = n + 1

place_digits : (o : Option ℕ) → place o < 100 → place_key o ≡ last_digits 2 (place o)
place_digits None h = refl
place_digits (Some n) h = digits_behind_zeros 1 (n + 1) h (omega (arith, h))

place_cmp : (o p : Option ℕ) → nat_cmp (place o) (place p) ≡ option_cmp nat_cmp o p
place_cmp None None = refl
place_cmp None (Some n) = grind (arith, nat_tests)
place_cmp (Some m) None = grind (arith, nat_tests)
place_cmp (Some m) (Some n) = grind (arith, nat_tests)

pub place_order : (o p : Option ℕ) → place o < 100 → place p < 100 → slice_cmp nat_cmp (place_key o) (place_key p) ≡ option_cmp nat_cmp o p
place_order o p h k = rw (place_digits o h, place_digits p k) (digits_order 2 (place o) (place p) h k ∙ place_cmp o p)

length_place : (o : Option ℕ) → place o < 100 → length (place_key o) ≡ 2
length_place o h = ap length (place_digits o h) ∙ length_digits 2 (place o)

-- ---- years

since : (n : ℕ) → n ≤ 999999999 → year_key (pos n) ≡ 80 ∷ last_digits 9 n
since n h =
    let short : n < 10 ^ 9 = omega (arith, h) in
    let fits : n < 2 ^ 64 = omega (arith, h) in
    ap (λ ds. 80 ∷ ds) (digits_behind_zeros 8 n short fits)

-- the number of a year before year 0, in ten digits
before_number : (n : ℕ) → n ≤ 2147483646 → pos 2147483647 +ℤ negsuc n ≡ pos (2147483646 - n)
before_number n h = grind (arith, h)

ten_places : (n : ℕ) → 10 ^ 9 ≤ n → n < 10 ^ 10 → n < 2 ^ 64 → nine_places (pos n) ≡ last_digits 10 n
ten_places n low high fits =
    let digits : decimal n ≡ last_digits 10 n = decimal_digits 9 n low high fits in
    let long : length (decimal n) ≡ 10 = ap length digits ∙ length_digits 10 n in
    let none : 9 - length (decimal n) ≡ 0 = omega (arith, long) in
    ap (λ k. replicate k 48 ++ decimal n) none ∙ digits

before : (n : ℕ) → n ≤ 1147483646 → year_key (negsuc n) ≡ 78 ∷ last_digits 10 (2147483646 - n)
before n h =
    let low : 10 ^ 9 ≤ 2147483646 - n = omega (arith, h) in
    let high : 2147483646 - n < 10 ^ 10 = omega (arith, h) in
    let fits : 2147483646 - n < 2 ^ 64 = omega (arith, h) in
    ap (λ y. 78 ∷ nine_places y) (before_number n (omega (arith, h))) ∙ ap (λ ds. 78 ∷ ds) (ten_places (2147483646 - n) low high fits)

same_sign : (m n : ℕ) → nat_cmp m n ≡ int_cmp (pos m) (pos n)
same_sign m n = grind (arith, ints, nat_tests)

turned_sign : (m n : ℕ) → m ≤ 2147483646 → n ≤ 2147483646 → nat_cmp (2147483646 - m) (2147483646 - n) ≡ int_cmp (negsuc m) (negsuc n)
turned_sign m n h k = grind (arith, ints, nat_tests)

-- two keys of one sign, and the bytes after them
side_by_side : (w c m n : ℕ) (xs ys : List ℕ) → m < 10 ^ w → n < 10 ^ w → slice_cmp nat_cmp ((c ∷ last_digits w m) ++ xs) ((c ∷ last_digits w n) ++ ys) ≡ ordering_then (nat_cmp m n) (slice_cmp nat_cmp xs ys)
side_by_side w c m n xs ys h k =
    let same : length (last_digits w m) ≡ length (last_digits w n) = length_digits w m ∙ sym (length_digits w n) in
    let level : nat_cmp c c ≡ Equal = grind (arith, nat_tests) in
    ap (λ o. ordering_then o (slice_cmp nat_cmp (last_digits w m ++ xs) (last_digits w n ++ ys))) level
    ∙ cmp_append (last_digits w m) xs (last_digits w n) ys same
    ∙ ap (λ o. ordering_then o (slice_cmp nat_cmp xs ys)) (digits_order w m n h k)

beside : (ks ls ds es xs ys : List ℕ) → ks ≡ ds → ls ≡ es → slice_cmp nat_cmp (ks ++ xs) (ls ++ ys) ≡ slice_cmp nat_cmp (ds ++ xs) (es ++ ys)
beside ks ls ds es xs ys e h = ap (λ t. slice_cmp nat_cmp (t ++ xs) (ls ++ ys)) e ∙ ap (λ t. slice_cmp nat_cmp (ds ++ xs) (t ++ ys)) h

years_order : (a b : ℤ) (xs ys : List ℕ) → HasKeyYear a → HasKeyYear b → slice_cmp nat_cmp (year_key a ++ xs) (year_key b ++ ys) ≡ ordering_then (int_cmp a b) (slice_cmp nat_cmp xs ys)
years_order (pos m) (pos n) xs ys h k =
    let low : m ≤ 999999999 = omega (arith, ints, h) in
    let other : n ≤ 999999999 = omega (arith, ints, k) in
    beside (year_key (pos m)) (year_key (pos n)) (80 ∷ last_digits 9 m) (80 ∷ last_digits 9 n) xs ys (since m low) (since n other)
    ∙ side_by_side 9 80 m n xs ys (omega (arith, low)) (omega (arith, other))
    ∙ ap (λ o. ordering_then o (slice_cmp nat_cmp xs ys)) (same_sign m n)
years_order (pos m) (negsuc n) xs ys h k = refl
years_order (negsuc m) (pos n) xs ys h k = refl
years_order (negsuc m) (negsuc n) xs ys h k =
    let low : m ≤ 1147483646 = omega (arith, ints, h) in
    let other : n ≤ 1147483646 = omega (arith, ints, k) in
    beside (year_key (negsuc m)) (year_key (negsuc n)) (78 ∷ last_digits 10 (2147483646 - m)) (78 ∷ last_digits 10 (2147483646 - n)) xs ys (before m low) (before n other)
    ∙ side_by_side 10 78 (2147483646 - m) (2147483646 - n) xs ys (omega arith) (omega arith)
    ∙ ap (λ o. ordering_then o (slice_cmp nat_cmp xs ys)) (turned_sign m n (omega (arith, low)) (omega (arith, other)))

-- ---- dates

pub key_order : (a b : DateView) → HasKeyYear a.year → HasKeyYear b.year → place a.month < 100 → place b.month < 100 → place a.day < 100 → place b.day < 100 → slice_cmp nat_cmp (full_key a) (full_key b) ≡ time_order a b
key_order a b h k m n d e =
    let same : length (place_key a.month) ≡ length (place_key b.month) = length_place a.month m ∙ sym (length_place b.month n) in
    let behind_a = place_key a.month ++ place_key a.day in
    let behind_b = place_key b.month ++ place_key b.day in
    beside (year_key a.year ++ []) (year_key b.year ++ []) (year_key a.year) (year_key b.year) behind_a behind_b (append-nil (year_key a.year)) (append-nil (year_key b.year))
    ∙ years_order a.year b.year behind_a behind_b h k
    ∙ ap (ordering_then (int_cmp a.year b.year))
    (cmp_append (place_key a.month) (place_key a.day) (place_key b.month) (place_key b.day) same
    ∙ ap (λ o. ordering_then o (slice_cmp nat_cmp (place_key a.day) (place_key b.day))) (place_order a.month b.month m n)
    ∙ ap (ordering_then (option_cmp nat_cmp a.month b.month)) (place_order a.day b.day d e))

-- a month or a day in range has at most two digits
pub in_range : (o : Option ℕ) (most : ℕ) → most ≤ 30 → ForSome o (λ n. n ≤ most) → place o < 100
in_range None most h k = omega arith
in_range (Some n) most h k =
    let low : n ≤ most = k n refl in
    omega (arith, low, h)
