use Rattle.std.proofs.Common.{ℕ, zero, suc, ◌+◌, ◌-◌, ◌*◌, ◌/◌, ◌%◌, ◌^◌, ◌<◌, ◌≤◌, ◌≡◌, ◌⊎◌, inl, inr, List, [], ◌∷◌, ◌++◌, length, refl, sym, ◌∙◌, ap, subst, lit<, lit≤, reverse, length-append, ◌↔◌, Bool, true, false, ◌==◌, if◌then◌else◌, arith}
use Rattle.std.proofs.Math.Nat.{pow-suc, pow-le-pow_right, one-le-pow}
use Rattle.std.proofs.lemmas.Bool.{cases_order}
use Rattle.std.proofs.lemmas.Grind.{reverse_onto}
use Rattle.std.proofs.lemmas.Bool.Decides.{nat_tests}
use Rattle.csl_entry.specs.Letters.{AreLetters, IsWord, IsEarlier, StandsBefore, word_value, word_index, next_reversed, reversed_word, letters}

-- the value of the word of n letters `a`
abbrev pub ones : ℕ → ℕ
ones zero = 0
ones (suc n) = 26 ^ n + ones n

product_low : (a p : ℕ) → 1 ≤ a → p ≤ a * p
product_low a p h = grind arith

product_high : (a b p : ℕ) → a ≤ b → a * p ≤ b * p
product_high a b p h = grind arith

next_power : (n : ℕ) → 26 ^ suc n ≡ 26 * 26 ^ n
next_power n = grind (arith, pow-suc)

pub value_low : (w : List ℕ) → AreLetters w → ones (length w) ≤ word_value w
value_low [] h = omega arith
value_low (c ∷ cs) h = omega (arith, h.0, product_low (c - 96) (26 ^ length cs) (omega (arith, h.0)), value_low cs h.2)

pub value_high : (w : List ℕ) → AreLetters w → word_value w < ones (suc (length w))
value_high [] h = omega arith
value_high (c ∷ cs) h = omega (arith, next_power (length cs), product_high (c - 96) 26 (26 ^ length cs) (omega (arith, h.1)), value_high cs h.2)

-- more letters `a` have no lower value
pub ones_more : (m n : ℕ) → m ≤ n → ones m ≤ ones n
ones_more zero n h = omega arith
ones_more (suc m) zero h = omega (arith, h)
ones_more (suc m) (suc n) h = omega (arith, ones_more m n (omega (arith, h)), pow-le-pow_right {n = 26} (lit< tt) {i = m} {j = n} (omega (arith, h)))

pub value_shorter : (v w : List ℕ) → AreLetters v → AreLetters w → length v < length w → word_value v < word_value w
value_shorter v w hv hw h = omega (arith, value_high v hv, ones_more (suc (length v)) (length w) (omega (arith, h)), value_low w hw)

one_more : (a p : ℕ) → suc a * p ≡ a * p + p
one_more a p = grind arith

-- a later first letter outweighs all letters after it
first_letter : (a b p q m n : ℕ) → a < b → m < p + q → q ≤ n → a * p + m < b * p + n
first_letter a b p q m n h hm hn = omega (arith, product_high (suc a) b p (omega (arith, h)), one_more a p, hm, hn)

same_length : (c d : ℕ) (cs ds : List ℕ) → length (c ∷ cs) ≡ length (d ∷ ds) → length cs ≡ length ds
same_length c d cs ds h = omega (arith, h)

pub value_earlier : (v w : List ℕ) → AreLetters v → AreLetters w → length v ≡ length w → IsEarlier v w → word_value v < word_value w
value_earlier [] w hv hw e h = absurd h
value_earlier (c ∷ cs) [] hv hw e h = absurd h
value_earlier (c ∷ cs) (d ∷ ds) hv hw e (inl h) =
    let k = same_length c d cs ds e in
    let high : word_value cs < 26 ^ length cs + ones (length cs) = value_high cs hv.2 in
    let Q : ℕ → Type 0 = λ n. ones n ≤ word_value ds in
    let low : ones (length cs) ≤ word_value ds = subst Q (sym k) (value_low ds hw.2) in
    let P : ℕ → Type 0 = λ l. (c - 96) * 26 ^ length cs + word_value cs < (d - 96) * 26 ^ l + word_value ds in
    subst P k (first_letter (c - 96) (d - 96) (26 ^ length cs) (ones (length cs)) (word_value cs) (word_value ds) (omega (arith, h, hv.0)) high low)
value_earlier (c ∷ cs) (d ∷ ds) hv hw e (inr h) =
    let k = same_length c d cs ds e in
    let R : ℕ → ℕ → Type 0 = λ x l. (c - 96) * 26 ^ length cs + word_value cs < (x - 96) * 26 ^ l + word_value ds in
    let rest = value_earlier cs ds hv.2 hw.2 k h.1 in
    subst (R d) k (subst (λ x. R x (length cs)) h.0 (omega (arith, rest)))

pub value_before : (v w : List ℕ) → AreLetters v → AreLetters w → StandsBefore v w → word_value v < word_value w
value_before v w hv hw (inl h) = value_shorter v w hv hw h
value_before v w hv hw (inr h) = value_earlier v w hv hw h.0 h.1

-- two words of one length are equal, or one of them is earlier
pub which_earlier : (v w : List ℕ) → length v ≡ length w → (v ≡ w) ⊎ (IsEarlier v w ⊎ IsEarlier w v)
which_earlier [] [] e = inl refl
which_earlier [] (d ∷ ds) e = absurd (omega (arith, e))
which_earlier (c ∷ cs) [] e = absurd (omega (arith, e))
which_earlier (c ∷ cs) (d ∷ ds) e = by_letters (cases_order c d) (which_earlier cs ds (same_length c d cs ds e)) where
  by_letters : (c ≡ d) ⊎ ((c < d) ⊎ (d < c)) → (cs ≡ ds) ⊎ (IsEarlier cs ds ⊎ IsEarlier ds cs) → ((c ∷ cs) ≡ (d ∷ ds)) ⊎ (IsEarlier (c ∷ cs) (d ∷ ds) ⊎ IsEarlier (d ∷ ds) (c ∷ cs))
  by_letters (inl h) (inl t) = inl cc
  by_letters (inl h) (inr (inl t)) = inr (inl (inr (h, t)))
  by_letters (inl h) (inr (inr t)) = inr (inr (inr (sym h, t)))
  by_letters (inr (inl h)) t = inr (inl (inl h))
  by_letters (inr (inr h)) t = inr (inr (inl h))

pub which_before : (v w : List ℕ) → (v ≡ w) ⊎ (StandsBefore v w ⊎ StandsBefore w v)
which_before v w = by_length (cases_order (length v) (length w)) where
  by_length : (length v ≡ length w) ⊎ ((length v < length w) ⊎ (length w < length v)) → (v ≡ w) ⊎ (StandsBefore v w ⊎ StandsBefore w v)
  by_length (inr (inl h)) = inr (inl (inl h))
  by_length (inr (inr h)) = inr (inr (inl h))
  by_length (inl e) = at_length (which_earlier v w e) where
    at_length : (v ≡ w) ⊎ (IsEarlier v w ⊎ IsEarlier w v) → (v ≡ w) ⊎ (StandsBefore v w ⊎ StandsBefore w v)
    at_length (inl h) = inl h
    at_length (inr (inl h)) = inr (inl (inr (e, h)))
    at_length (inr (inr h)) = inr (inr (inr (sym e, h)))

-- the value of a word, last letter first
abbrev pub value_back : List ℕ → ℕ
value_back [] = 0
value_back (c ∷ cs) = (c - 96) + 26 * value_back cs

swapped : (a p : ℕ) → a * (26 * p) ≡ 26 * (a * p)
swapped a p = grind arith

pub value-snoc : (w : List ℕ) (c : ℕ) → word_value (w ++ (c ∷ [])) ≡ 26 * word_value w + (c - 96)
value-snoc [] c = omega arith
value-snoc (d ∷ w) c = omega (arith, value-snoc w c, longer) where
  power : 26 ^ length (w ++ (c ∷ [])) ≡ 26 * 26 ^ length w
  power = ap (λ n. 26 ^ n) (grind (arith, length-append)) ∙ next_power (length w)

  longer : (d - 96) * 26 ^ length (w ++ (c ∷ [])) ≡ 26 * ((d - 96) * 26 ^ length w)
  longer = ap (λ p. (d - 96) * p) power ∙ swapped (d - 96) (26 ^ length w)

pub letters-snoc : (w : List ℕ) (c : ℕ) → AreLetters w → 97 ≤ c → c ≤ 122 → AreLetters (w ++ (c ∷ []))
letters-snoc [] c h l r = (l, r, tt)
letters-snoc (d ∷ w) c h l r = (h.0, h.1, letters-snoc w c h.2 l r)

pub value-reverse : (w : List ℕ) → word_value (reverse w) ≡ value_back w
value-reverse [] = refl
value-reverse (c ∷ w) = ap word_value (reverse_onto w c []) ∙ (value-snoc (reverse w) c ∙ omega (arith, value-reverse w))

pub letters-reverse : (w : List ℕ) → AreLetters w → AreLetters (reverse w)
letters-reverse [] h = tt
letters-reverse (c ∷ w) h = subst AreLetters (sym (reverse_onto w c [])) (letters-snoc (reverse w) c (letters-reverse w h.2) h.0 h.1)

-- the next word has only letters, and its value is one higher
pub next_reversed-letters : (w : List ℕ) → AreLetters w → AreLetters (next_reversed w)
next_reversed-letters [] h = (lit≤ tt, lit≤ tt, tt)
next_reversed-letters (c ∷ w) h = by_last (next_reversed-letters w h.2) (c == 122) refl where
  by_last : AreLetters (next_reversed w) → (b : Bool) → (c == 122) ≡ b → AreLetters (if b then 97 ∷ next_reversed w else (c + 1) ∷ w)
  by_last rest true e = (lit≤ tt, lit≤ tt, rest)
  by_last rest false e = (omega (arith, h.0), grind (arith, nat_tests, e, h.1), h.2)

pub next_reversed-value : (w : List ℕ) → AreLetters w → value_back (next_reversed w) ≡ 1 + value_back w
next_reversed-value [] h = refl
next_reversed-value (c ∷ w) h = by_last (next_reversed-value w h.2) (c == 122) refl where
  by_last : value_back (next_reversed w) ≡ 1 + value_back w → (b : Bool) → (c == 122) ≡ b → value_back (if b then 97 ∷ next_reversed w else (c + 1) ∷ w) ≡ 1 + value_back (c ∷ w)
  by_last rest true e = let last : c ≡ 122 = grind (arith, nat_tests, e) in omega (arith, last, rest)
  by_last rest false e = omega (arith, h.0)

pub reversed_word-letters : (n : ℕ) → AreLetters (reversed_word n)
reversed_word-letters zero = (lit≤ tt, lit≤ tt, tt)
reversed_word-letters (suc n) = next_reversed-letters (reversed_word n) (reversed_word-letters n)

pub reversed_word-value : (n : ℕ) → value_back (reversed_word n) ≡ suc n
reversed_word-value zero = refl
reversed_word-value (suc n) = next_reversed-value (reversed_word n) (reversed_word-letters n) ∙ omega (arith, reversed_word-value n)

-- word number n has the value n + 1
pub letters-value : (n : ℕ) → word_value (letters n) ≡ suc n
letters-value n = value-reverse (reversed_word n) ∙ reversed_word-value n

pub letters-letters : (n : ℕ) → AreLetters (letters n)
letters-letters n = letters-reverse (reversed_word n) (reversed_word-letters n)

pub has_value : (w : List ℕ) → IsWord w → 0 < word_value w
has_value [] h = h.0
has_value (c ∷ cs) h = omega (arith, h.1.0, product_low (c - 96) (26 ^ length cs) (omega (arith, h.1.0)), one-le-pow (length cs) 26 (lit< tt))

-- words of the same value are equal
pub one_value : (v w : List ℕ) → AreLetters v → AreLetters w → word_value v ≡ word_value w → v ≡ w
one_value v w hv hw e = by_order (which_before v w) where
  by_order : (v ≡ w) ⊎ (StandsBefore v w ⊎ StandsBefore w v) → v ≡ w
  by_order (inl h) = h
  by_order (inr (inl h)) = absurd (omega (arith, e, value_before v w hv hw h))
  by_order (inr (inr h)) = absurd (omega (arith, e, value_before w v hw hv h))

-- the word at place n is word number n
pub at_place : (w : List ℕ) (n : ℕ) → IsWord w → word_index w ≡ n → w ≡ letters n
at_place w n h e = one_value w (letters n) h.1 (letters-letters n) (omega (arith, has_value w h, e, letters-value n))

-- the words before another are those of a lower place
pub before_place : (v w : List ℕ) → IsWord v → IsWord w → StandsBefore v w → word_index v < word_index w
before_place v w hv hw h = omega (arith, value_before v w hv.1 hw.1 h, has_value v hv, has_value w hw)

pub place_before : (v w : List ℕ) → IsWord v → IsWord w → word_index v < word_index w → StandsBefore v w
place_before v w hv hw h = by_order (which_before v w) where
  by_order : (v ≡ w) ⊎ (StandsBefore v w ⊎ StandsBefore w v) → StandsBefore v w
  by_order (inl e) = absurd (omega (arith, ap word_index e, h))
  by_order (inr (inl b)) = b
  by_order (inr (inr b)) = absurd (omega (arith, before_place w v hw hv b, h))

pub order_at : (v w : List ℕ) (n : ℕ) → IsWord v → IsWord w → word_index w ≡ n → StandsBefore v w ↔ (word_index v < n)
order_at v w n hv hw e = (λ b. omega (arith, before_place v w hv hw b, e), λ l. place_before v w hv hw (omega (arith, l, e)))

pub one_place : (v w : List ℕ) (n : ℕ) → IsWord v → IsWord w → word_index v ≡ n → word_index w ≡ n → v ≡ w
one_place v w n hv hw ev ew = at_place v n hv ev ∙ sym (at_place w n hw ew)

in_front : (q r p m : ℕ) → (26 * q + r + 1) * p + m ≡ q * (26 * p) + ((97 + r - 96) * p + m)
in_front q r p m = omega (arith, ap (λ k. k * p) letter) where
  letter : 97 + r - 96 ≡ r + 1
  letter = omega arith

-- In the division of a place by 26, the remainder gives the last letter of its word. The quotient
-- less 1 is the place of the word before that letter.
pub value_front : (rest n : ℕ) (w : List ℕ) → 26 ≤ rest → (rest + 1) * 26 ^ length w + word_value w ≡ n + 1 → (rest / 26 - 1 + 1) * 26 ^ suc (length w) + word_value ((97 + rest % 26) ∷ w) ≡ n + 1
value_front rest n w h e = ap (λ k. k + word_value ((97 + rest % 26) ∷ w)) before ∙ (sym split ∙ e) where
  whole : rest ≡ 26 * (rest / 26) + rest % 26
  whole = omega arith

  split : (rest + 1) * 26 ^ length w + word_value w ≡ rest / 26 * (26 * 26 ^ length w) + word_value ((97 + rest % 26) ∷ w)
  split = ap (λ k. (k + 1) * 26 ^ length w + word_value w) whole ∙ in_front (rest / 26) (rest % 26) (26 ^ length w) (word_value w)

  counted : rest / 26 - 1 + 1 ≡ rest / 26
  counted = omega (arith, h)

  before : (rest / 26 - 1 + 1) * 26 ^ suc (length w) ≡ rest / 26 * (26 * 26 ^ length w)
  before = ap (λ k. k * 26 ^ suc (length w)) counted ∙ ap (λ p. rest / 26 * p) (next_power (length w))
