-- Reading numbers in a loop, one number at a time.
use Rattle.std.proofs.Common.{◌≡◌, ℕ, zero, suc, ◌-◌, ◌+◌, ◌≤◌, ◌<◌, List, [], ◌∷◌, ◌++◌, Option, Some, None, option_map, ℤ, refl, sym, ap, append_assoc, arith}
use Rattle.lit_model.specs.declared.numeric.NumericDelimiter.{NumericDelimiter}
use Rattle.lit_model.specs.NumericParse.{◌>>=◌, rest_of, integer_at, delimiter_at, integers_at}

-- a number with its delimiter, then the remaining numbers; and the last number alone
pub integers_at-more : (k : ℕ) (cs a b : List ℕ) (n : ℤ) (d : NumericDelimiter) → integer_at cs ≡ Some (n, a) → delimiter_at a ≡ Some (d, b) → integers_at (suc k) cs ≡ integers_at k b >>= λ more. Some ((n, Some d) ∷ more.0, more.1)
unfolding integers_at
integers_at-more k cs a b n d hn hd = rw (hn, hd) refl

pub integers_at-last : (cs a : List ℕ) (n : ℤ) → integer_at cs ≡ Some (n, a) → integers_at 0 cs ≡ Some ((n, None) ∷ [], a)
unfolding integers_at
integers_at-last cs a n hn = rw hn refl

-- None if there is no number, or no delimiter after it
pub integers_at_no_integer : (k : ℕ) (cs : List ℕ) → integer_at cs ≡ None → integers_at k cs ≡ None
unfolding integers_at
integers_at_no_integer zero cs hn = rw hn refl
integers_at_no_integer (suc k) cs hn = rw hn refl

pub integers_at_no_delimiter : (k : ℕ) (cs a : List ℕ) (n : ℤ) → integer_at cs ≡ Some (n, a) → delimiter_at a ≡ None → integers_at (suc k) cs ≡ None
unfolding integers_at
integers_at_no_delimiter k cs a n hn hd = rw (hn, hd) refl

abbrev pub Numbers : Type 0
Numbers = List (ℤ × Option NumericDelimiter)

-- one turn of the loop does not change which characters follow all the numbers
rest_of_more : (more : Option (Numbers × List ℕ)) (x : ℤ × Option NumericDelimiter) → rest_of (more >>= λ m. Some (x ∷ m.0, m.1)) ≡ rest_of more
rest_of_more None x = refl
rest_of_more (Some m) x = refl

pub rest_turn : (count i : ℕ) (cs a b : List ℕ) (n : ℤ) (d : NumericDelimiter) → i < count → integer_at cs ≡ Some (n, a) → delimiter_at a ≡ Some (d, b) → rest_of (integers_at (count - (i + 1)) b) ≡ rest_of (integers_at (count - i) cs)
rest_turn count i cs a b n d lt hn hd =
    let k : count - i ≡ suc (count - (i + 1)) = omega arith in
    rw (k, integers_at-more (count - (i + 1)) cs a b n d hn hd) (sym (rest_of_more (integers_at (count - (i + 1)) b) (n, Some d)))

-- the numbers so far, then the remaining ones
abbrev pub with_front : Numbers → Option (Numbers × List ℕ) → Option Numbers
with_front so_far o = option_map (λ (x : Numbers × List ℕ). so_far ++ x.0) o

-- one turn of the loop does not change the list of all the numbers
numbers_of_more : (so_far : Numbers) (more : Option (Numbers × List ℕ)) (x : ℤ × Option NumericDelimiter) → with_front so_far (more >>= λ m. Some (x ∷ m.0, m.1)) ≡ with_front (so_far ++ x ∷ []) more
numbers_of_more so_far None x = refl
numbers_of_more so_far (Some m) x = ap Some (sym (append_assoc so_far (x ∷ []) m.0))

pub numbers_turn : (count i : ℕ) (so_far : Numbers) (cs a b : List ℕ) (n : ℤ) (d : NumericDelimiter) → i < count → integer_at cs ≡ Some (n, a) → delimiter_at a ≡ Some (d, b) → with_front (so_far ++ (n, Some d) ∷ []) (integers_at (count - (i + 1)) b) ≡ with_front so_far (integers_at (count - i) cs)
numbers_turn count i so_far cs a b n d lt hn hd =
    let k : count - i ≡ suc (count - (i + 1)) = omega arith in
    rw (k, integers_at-more (count - (i + 1)) cs a b n d hn hd) (sym (numbers_of_more so_far (integers_at (count - (i + 1)) b) (n, Some d)))

-- the loop reads nothing if a number or a delimiter is missing; the last number ends it
pub gone_integer : (count i : ℕ) (cs : List ℕ) → integer_at cs ≡ None → integers_at (count - i) cs ≡ None
gone_integer count i cs hn = integers_at_no_integer (count - i) cs hn

pub gone_delimiter : (count i : ℕ) (cs a : List ℕ) (n : ℤ) → i < count → integer_at cs ≡ Some (n, a) → delimiter_at a ≡ None → integers_at (count - i) cs ≡ None
gone_delimiter count i cs a n lt hn hd =
    let k : count - i ≡ suc (count - (i + 1)) = omega arith in
    rw k (integers_at_no_delimiter (count - (i + 1)) cs a n hn hd)

pub last_integer : (count i : ℕ) (cs a : List ℕ) (n : ℤ) → count ≤ i → integer_at cs ≡ Some (n, a) → integers_at (count - i) cs ≡ Some ((n, None) ∷ [], a)
last_integer count i cs a n le hn =
    let k : count - i ≡ 0 = omega arith in
    rw k (integers_at-last cs a n hn)
