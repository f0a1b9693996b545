-- Numeric texts (CSL 1.0.2, Number; Choose, `is-numeric`). White space is Unicode White_Space, as
-- in Rust's `char::is_whitespace`; digits are ASCII. The grammar is over characters, not bytes, so
-- a prefix never cuts a character.
-- - A delimiter is `,`, `&` or `-`. An affix character is not a digit, not white space and not a
--   delimiter.
-- - A number is one or more digits with a decimal value below 2^31; leading zeros are allowed. Two
--   numbers have a delimiter between them, with or without white space around it.
-- - A text spells a value (`Spells`) if it is optional white space, a prefix, one or more numbers,
--   a suffix, and optional white space. A prefix or suffix is affix characters; an empty one is
--   `None`. One number is `Number`. Several are a `Set`: each has the delimiter after it, and the
--   last has none.
-- - A value is writable (`IsWritable`) if its numbers are from 0 to 2^31 - 1, exactly the last of
--   two or more has no delimiter, and a prefix or suffix that is present is one or more affix
--   characters. These are exactly the values that some text spells.
-- - Characters are in the grammar if they spell some value (`IsSpelled`).
-- - `error_text` is the text that `Display` writes for each error of parsing.
use Rattle.std.specs.Prelude.{◌≡◌, ℕ, ◌^◌, ◌<◌, ◌≤◌, Bool, true, false, not, map, is_none, int_lt, ◌&&◌, ◌||◌, ◌==◌, List, [], ◌∷◌, ◌++◌, length, ℤ, pos, negsuc, Option, Some, None, IsSome, IsUtf8, chars, ⊤, option_map, string_bytes, encode_utf8_all, codes}
use Rattle.std.specs.Char.{is_ascii_digit, is_whitespace}
use Rattle.std.specs.List.{AllByRecursion}
use Rattle.std.specs.Str.Parse.{digits_value}
use Rattle.lit_model.specs.Characters.{ampersand_char, comma_char, hyphen_char}
use Rattle.lit_model.specs.declared.numeric.Numeric.{Numeric}
use Rattle.lit_model.specs.declared.numeric.NumericValue.{NumericValue}
use Rattle.lit_model.specs.declared.numeric.NumericValue.TheVariants.{Number, Set}
use Rattle.lit_model.specs.declared.numeric.NumericDelimiter.{NumericDelimiter}
use Rattle.lit_model.specs.declared.numeric.NumericDelimiter.TheVariants.{Comma, Ampersand, Hyphen}
use Rattle.lit_model.specs.declared.numeric.error.NumericError.{NumericError}
use Rattle.lit_model.specs.declared.numeric.error.NumericError.TheVariants.{Memory, NotNumeric}

-- ---- values as plain data

-- one number, or several, each with the delimiter after it
pub data ValueView : Type 0 where
  one : ℤ → ValueView
  several : List (ℤ × Option NumericDelimiter) → ValueView

-- a number by its value and the bytes of its texts
pub record NumericView : Type 0 where
  pub value : ValueView
  pub prefix : Option (List ℕ)
  pub suffix : Option (List ℕ)

abbrev pub value_view : NumericValue → ValueView
value_view (Number n) = one n
value_view (Set numbers) = several numbers.items

abbrev pub numeric_view : Numeric → NumericView
numeric_view n = record { value = value_view n.value; prefix = option_map string_bytes n.prefix; suffix = option_map string_bytes n.suffix }

-- the numbers alone
abbrev pub numbers : ValueView → List ℤ
numbers (one n) = n ∷ []
numbers (several xs) = map (λ x. x.0) xs

-- the number, if there is exactly one
abbrev pub only_number : List ℤ → Option ℤ
only_number [] = None
only_number (n ∷ []) = Some n
only_number (n ∷ m ∷ more) = None

-- whether a term beside the numbers is in the plural: beside several numbers, or beside one number
-- above 1 that counts things, such as pages or volumes
abbrev pub is_plural_number : Bool → List ℤ → Bool
is_plural_number counts [] = false
is_plural_number counts (n ∷ []) = counts && int_lt (pos 1) n
is_plural_number counts (n ∷ m ∷ more) = true

-- whether there is neither a prefix nor a suffix
abbrev pub is_bare : NumericView → Bool
is_bare v = is_none v.prefix && is_none v.suffix

-- ---- the grammar, over the characters of a text

-- the character of a delimiter
abbrev pub delimiter_char : NumericDelimiter → ℕ
delimiter_char Comma = comma_char
delimiter_char Ampersand = ampersand_char
delimiter_char Hyphen = hyphen_char

abbrev pub is_delimiter : ℕ → Bool
is_delimiter c = (c == comma_char || c == ampersand_char) || c == hyphen_char

-- whether a character may be in a prefix or a suffix: no digit, no white space and no delimiter
abbrev pub is_affix : ℕ → Bool
is_affix c = (not (is_ascii_digit c) && not (is_whitespace c)) && not (is_delimiter c)

-- each of the characters passes the test
abbrev pub AllChars : (ℕ → Bool) → List ℕ → Type 0
AllChars p cs = AllByRecursion (λ c. p c ≡ true) cs

-- white space, or nothing
abbrev pub IsBlank : List ℕ → Type 0
IsBlank cs = AllChars is_whitespace cs

-- one or more digits that write the number in base ten; the number is below 2 ^ 31
pub record SpellsInteger (n : ℤ) (cs : List ℕ) : Type 0 where
  pub nonempty : 0 < length cs
  pub digits : AllChars is_ascii_digit cs
  pub fits : digits_value 10 cs < 2 ^ 31
  pub is : n ≡ pos (digits_value 10 cs)

-- each number but the last has a delimiter after it, with or without white space around it
abbrev pub SpellsIntegers : List (ℤ × Option NumericDelimiter) → List ℕ → Type 0
SpellsIntegers [] cs = ⊥
SpellsIntegers (x ∷ []) cs = (x.1 ≡ None) × SpellsInteger x.0 cs
SpellsIntegers (x ∷ y ∷ more) cs = (d : NumericDelimiter) × (digits : List ℕ) × (before : List ℕ) × (after : List ℕ) × (rest : List ℕ)
    × (x.1 ≡ Some d) × (cs ≡ digits ++ (before ++ (delimiter_char d ∷ (after ++ rest))))
    × SpellsInteger x.0 digits × IsBlank before × IsBlank after × SpellsIntegers (y ∷ more) rest

-- one number, or two or more
abbrev pub SpellsValue : ValueView → List ℕ → Type 0
SpellsValue (one n) cs = SpellsInteger n cs
SpellsValue (several numbers) cs = (2 ≤ length numbers) × SpellsIntegers numbers cs

-- the characters of a prefix or a suffix; no characters if it is absent
abbrev pub SpellsAffix : (ℕ → Bool) → Option (List ℕ) → List ℕ → Type 0
SpellsAffix p None cs = cs ≡ []
SpellsAffix p (Some bytes) cs = (0 < length cs) × AllChars p cs × (bytes ≡ encode_utf8_all cs)

-- The characters spell the value: optional white space, the prefix, the numbers, the suffix,
-- optional white space.
pub record Spells (v : NumericView) (cs : List ℕ) : Type 0 where
  pub before : List ℕ
  pub prefix : List ℕ
  pub numbers : List ℕ
  pub suffix : List ℕ
  pub after : List ℕ
  pub whole : cs ≡ before ++ (prefix ++ (numbers ++ (suffix ++ after)))
  pub blank_before : IsBlank before
  pub has_prefix : SpellsAffix is_affix v.prefix prefix
  pub has_value : SpellsValue v.value numbers
  pub has_suffix : SpellsAffix is_affix v.suffix suffix
  pub blank_after : IsBlank after

-- ---- the values that some text spells

-- a number that digits write: from 0 to 2 ^ 31 - 1
abbrev pub IsWritableInteger : ℤ → Type 0
IsWritableInteger (pos n) = n < 2 ^ 31
IsWritableInteger (negsuc n) = ⊥

-- each number but the last has a delimiter
abbrev pub AreWritableIntegers : List (ℤ × Option NumericDelimiter) → Type 0
AreWritableIntegers [] = ⊥
AreWritableIntegers (x ∷ []) = IsWritableInteger x.0 × (x.1 ≡ None)
AreWritableIntegers (x ∷ y ∷ more) = IsWritableInteger x.0 × IsSome x.1 × AreWritableIntegers (y ∷ more)

abbrev pub IsWritableValue : ValueView → Type 0
IsWritableValue (one n) = IsWritableInteger n
IsWritableValue (several numbers) = (2 ≤ length numbers) × AreWritableIntegers numbers

-- a prefix or a suffix that is present is one or more characters that pass the test
abbrev pub IsWritableAffix : (ℕ → Bool) → Option (List ℕ) → Type 0
IsWritableAffix p None = ⊤
IsWritableAffix p (Some bytes) = IsUtf8 bytes × (0 < length bytes) × AllChars p (chars bytes)

pub record IsWritable (v : NumericView) : Type 0 where
  pub value : IsWritableValue v.value
  pub prefix : IsWritableAffix is_affix v.prefix
  pub suffix : IsWritableAffix is_affix v.suffix

-- the characters spell some value
pub record IsSpelled (cs : List ℕ) : Type 0 where
  pub value : NumericView
  pub spelled : Spells value cs

-- ---- errors

-- the text that `Display` writes for each error of parsing
abbrev pub error_text : NumericError → List ℕ
error_text Memory = codes "out of memory"
error_text NotNumeric = codes "not numeric"
