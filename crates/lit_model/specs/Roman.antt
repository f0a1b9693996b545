-- Roman numerals in lower case, for 1 to 3999: thousands, hundreds, tens and units. Four is one
-- before five, and nine is one before ten.
use Rattle.std.specs.Prelude.{ℕ, ◌-◌, ◌/◌, ◌%◌, ◌==◌, Bool, ◌&&◌, nat_lt, if◌then◌else◌, List, [], ◌∷◌, ◌++◌, replicate}
use Rattle.lit_model.specs.Characters.{letter_c, letter_d, letter_i, letter_l, letter_m, letter_v, letter_x}

-- the numeral of a digit, by the letters for one, five and ten of its place
abbrev pub roman_digit : ℕ → ℕ → ℕ → ℕ → List ℕ
roman_digit i v x d =
    if d == 4 then i ∷ v ∷ [] else (if d == 9 then i ∷ x ∷ [] else (if nat_lt d 5 then replicate d i else v ∷ replicate (d - 5) i))

-- hundreds, tens and units by their letters
abbrev pub hundreds : ℕ → List ℕ
hundreds d = roman_digit letter_c letter_d letter_m d

abbrev pub tens : ℕ → List ℕ
tens d = roman_digit letter_x letter_l letter_c d

abbrev pub units : ℕ → List ℕ
units d = roman_digit letter_i letter_v letter_x d

-- thousands, hundreds, tens and units
abbrev pub roman : ℕ → List ℕ
roman n = replicate (n / 1000) letter_m ++ (hundreds (n / 100 % 10) ++ (tens (n / 10 % 10) ++ units (n % 10)))

-- whether the number has a roman numeral
abbrev pub has_roman : ℕ → Bool
has_roman n = nat_lt 0 n && nat_lt n 4000
