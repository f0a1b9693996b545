-- The grammar of `Numeric` as a parser. Each step is a function of the remaining characters. It
-- returns the value that it reads and the characters after it, or None if the text does not fit.
use Rattle.std.specs.Prelude.{ℕ, zero, suc, ◌^◌, Bool, ◌==◌, nat_lt, if◌then◌else◌, List, [], ◌∷◌, length, ℤ, pos, Option, Some, None, option_and_then, option_map, count_by, encode_utf8_all}
use Rattle.std.specs.Char.{is_ascii_digit, is_whitespace}
use Rattle.std.specs.Str.Parse.{digits_value}
use Rattle.lit_model.specs.Characters.{ampersand_char, comma_char, hyphen_char}
use Rattle.lit_model.specs.declared.numeric.NumericDelimiter.{NumericDelimiter}
use Rattle.lit_model.specs.declared.numeric.NumericDelimiter.TheVariants.{Comma, Ampersand, Hyphen}
use Rattle.lit_model.specs.Numeric.{ValueView, one, several, NumericView, is_affix, is_delimiter}

infixl 10 ◌>>=◌
abbrev pub ◌>>=◌ : {A B : Type 0} → Option A → (A → Option B) → Option B
o >>= f = option_and_then f o

-- the value of a step, and the characters that it leaves
abbrev pub read_of : {A : Type 0} → Option (A × List ℕ) → Option A
read_of {A} o = option_map (λ (x : A × List ℕ). x.0) o

abbrev pub rest_of : {A : Type 0} → Option (A × List ℕ) → Option (List ℕ)
rest_of {A} o = option_map (λ (x : A × List ℕ). x.1) o

-- the longest front whose characters pass the test
abbrev pub longest_prefix : (ℕ → Bool) → List ℕ → List ℕ
longest_prefix p [] = []
longest_prefix p (c ∷ cs) = if p c then c ∷ longest_prefix p cs else []

-- the characters after the longest front whose characters pass the test
abbrev pub after_longest_prefix : (ℕ → Bool) → List ℕ → List ℕ
after_longest_prefix p [] = []
after_longest_prefix p (c ∷ cs) = if p c then after_longest_prefix p cs else c ∷ cs

-- the number that the digits write, if there are any and it is below 2 ^ 31
abbrev pub integer_from : List ℕ → Option ℤ
integer_from [] = None
integer_from (c ∷ cs) = if nat_lt (digits_value 10 (c ∷ cs)) (2 ^ 31) then Some (pos (digits_value 10 (c ∷ cs))) else None

-- a number at the front, and the characters after it
unfoldable pub integer_at : List ℕ → Option (ℤ × List ℕ)
integer_at cs = do
  n ← integer_from (longest_prefix is_ascii_digit cs)
  Some (n, after_longest_prefix is_ascii_digit cs)

-- the delimiter that a character is, if it is one
abbrev pub delimiter_of : ℕ → Option NumericDelimiter
delimiter_of c = if c == comma_char then Some Comma else (if c == ampersand_char then Some Ampersand else (if c == hyphen_char then Some Hyphen else None))

-- a delimiter at the front, and the characters after it and the white space that follows it
abbrev pub delimiter_first : List ℕ → Option (NumericDelimiter × List ℕ)
delimiter_first [] = None
delimiter_first (c ∷ cs) = do
  d ← delimiter_of c
  Some (d, after_longest_prefix is_whitespace cs)

-- a delimiter, and the characters after it; skips the white space around the delimiter
unfoldable pub delimiter_at : List ℕ → Option (NumericDelimiter × List ℕ)
delimiter_at cs = delimiter_first (after_longest_prefix is_whitespace cs)

-- this many numbers each with a delimiter after it, then one number; and the characters after them
unfoldable pub integers_at : ℕ → List ℕ → Option (List (ℤ × Option NumericDelimiter) × List ℕ)
integers_at zero cs = do
  n ← integer_at cs
  Some ((n.0, None) ∷ [], n.1)
integers_at (suc k) cs = do
  n ← integer_at cs
  d ← delimiter_at n.1
  more ← integers_at k d.1
  Some ((n.0, Some d.0) ∷ more.0, more.1)

-- one number if there is no delimiter, else a list with one number more than delimiters
unfoldable pub value_at : ℕ → List ℕ → Option (ValueView × List ℕ)
value_at zero cs = do
  n ← integer_at cs
  Some (one n.0, n.1)
value_at (suc k) cs = do
  n ← integers_at (suc k) cs
  Some (several n.0, n.1)

-- the text, or None if it is empty
abbrev pub text_from : List ℕ → Option (List ℕ)
text_from [] = None
text_from (b ∷ bytes) = Some (b ∷ bytes)

-- the bytes of a prefix or a suffix, or None if it is empty
abbrev pub affix_from : List ℕ → Option (List ℕ)
affix_from cs = text_from (encode_utf8_all cs)

-- whether only white space is left
abbrev pub is_blank : List ℕ → Bool
is_blank cs = length (after_longest_prefix is_whitespace cs) == 0

-- the value that the characters spell, if there is one
unfoldable pub numeric_from : List ℕ → Option NumericView
numeric_from cs = do
  let start = after_longest_prefix is_whitespace cs
  value ← value_at (count_by is_delimiter cs) (after_longest_prefix is_affix start)
  if is_blank (after_longest_prefix is_affix value.1) then Some (record { value = value.0; prefix = affix_from (longest_prefix is_affix start); suffix = affix_from (longest_prefix is_affix value.1) }) else None
