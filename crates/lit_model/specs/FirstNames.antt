-- A given name with its single letters marked (CSL 1.0.2, Name, `initialize-with` if `initialize`
-- is off). The words are those of `Initials`. A word that is one uppercase letter (general category
-- Lu), with or without a dot at its end, becomes that letter and the given text. Any other word is
-- unchanged.
-- A space separates two words, unless the given text follows the first of them and ends in white
-- space. After the last word the given text loses its trailing white space.
use Rattle.std.specs.Prelude.{ℕ, Bool, true, false, ◌==◌, List, [], ◌∷◌, ◌++◌, Option, Some, None, unwrap_or, codes, nat_lt, length, chars, if◌then◌else◌}
use Rattle.std.specs.Str.{trim_end}
use Rattle.ucd_category.specs.declared.GeneralCategory.{GeneralCategory}
use Rattle.ucd_category.specs.declared.GeneralCategory.TheVariants.{UppercaseLetter}
use Rattle.unicode.specs.GeneralCategory.{general_category}
use Rattle.lit_model.specs.Characters.{dot_char}
use Rattle.lit_model.specs.Initials.{given_words}
use Rattle.lit_model.specs.Person.{PersonView}

abbrev pub is_capital : GeneralCategory → Bool
is_capital UppercaseLetter = true
is_capital _ = false

-- whether the text is one uppercase letter (general category Lu)
abbrev pub is_single_capital : List ℕ → Bool
is_single_capital [] = false
is_single_capital (c ∷ []) = is_capital (general_category c)
is_single_capital (c ∷ d ∷ cs) = false

-- the text without a dot at its end
abbrev pub without_dot : List ℕ → List ℕ
without_dot [] = []
without_dot (b ∷ []) = if b == dot_char then [] else b ∷ []
without_dot (b ∷ c ∷ bs) = b ∷ without_dot (c ∷ bs)

-- the letter of a word that is one uppercase letter, with or without a dot
abbrev pub single_letter : List ℕ → Option (List ℕ)
single_letter word = if is_single_capital (chars (without_dot word)) then Some (without_dot word) else None

-- a word as it is written: its single letter and the given text, or the word
abbrev pub letter_or_word : List ℕ → Option (List ℕ) → List ℕ → List ℕ
letter_or_word text None word = word
letter_or_word text (Some letter) word = letter ++ text

-- the last word as it is written: after its single letter the text has no trailing white space
abbrev pub last_letter_or_word : List ℕ → Option (List ℕ) → List ℕ → List ℕ
last_letter_or_word text None word = word
last_letter_or_word text (Some letter) word = letter ++ trim_end text

abbrev pub ends_in_white_space : List ℕ → Bool
ends_in_white_space text = nat_lt (length (trim_end text)) (length text)

-- the space after a word; none if the given text follows the word and ends in white space
abbrev pub space_after : List ℕ → Option (List ℕ) → List ℕ
space_after text None = codes " "
space_after text (Some letter) = if ends_in_white_space text then [] else codes " "

-- the words of a given name as they are written, with the spaces between them
abbrev pub lettered_words : List ℕ → List (List ℕ) → List ℕ
lettered_words text [] = []
lettered_words text (w ∷ []) = last_letter_or_word text (single_letter w) w
lettered_words text (w ∷ v ∷ ws) = letter_or_word text (single_letter w) w ++ (space_after text (single_letter w) ++ lettered_words text (v ∷ ws))

abbrev pub optional_names : List ℕ → Option (List ℕ) → List ℕ
optional_names text None = []
optional_names text (Some given) = lettered_words text (given_words given)

-- the given name of a person, with the text after each single letter
abbrev pub person_first_name : Option (List ℕ) → PersonView → List ℕ
person_first_name text p = optional_names (unwrap_or text []) p.given_name
