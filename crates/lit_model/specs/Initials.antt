-- The initials of a given name (CSL 1.0.2, Name, `initialize-with`, `initialize-with-hyphen`). The
-- name is cut into words: its longest runs of characters that are not white space (Unicode
-- White_Space). Each word is cut into pieces at each `-`. The initial of a piece is its first
-- extended grapheme cluster (UAX #29), so an empty piece has none.
-- The initials follow one another in order, each with the given text after it. At the end the given
-- text loses its trailing white space. If hyphens are kept, the text between two initials of one
-- word is the given text without its trailing white space, then a `-`.
use Rattle.std.specs.Prelude.{ℕ, Bool, true, false, ◌==◌, List, [], ◌∷◌, ◌++◌, map, filter, Option, Some, None, unwrap_or, codes, slice_get, chars, encode_utf8_all, filter_map, if◌then◌else◌}
use Rattle.std.specs.Char.{is_whitespace}
use Rattle.std.specs.List.{slice_split}
use Rattle.std.specs.Str.{trim_end}
use Rattle.unicode_segmentation.specs.Grapheme.{graphemes}
use Rattle.lit_model.specs.Characters.{hyphen_char}
use Rattle.lit_model.specs.Person.{PersonView}

abbrev pub is_nonempty : {A : Type 0} → List A → Bool
is_nonempty [] = false
is_nonempty (c ∷ cs) = true

-- the longest runs of characters that are not white space
abbrev pub char_words : List ℕ → List (List ℕ)
char_words cs = filter is_nonempty (slice_split is_whitespace cs)

-- the words of a text
abbrev pub given_words : List ℕ → List (List ℕ)
given_words text = map encode_utf8_all (char_words (chars text))

-- the first grapheme of a text; an empty text has none
abbrev pub first_grapheme : List ℕ → Option (List ℕ)
first_grapheme piece = slice_get (graphemes true piece) 0

-- the first grapheme of each piece of a word, cut at each `-`
abbrev pub initials_of : List ℕ → List (List ℕ)
initials_of word = filter_map first_grapheme (slice_split (λ b. b == hyphen_char) word)

-- The text between two initials of a word: the given text, or, if hyphens are kept, the given text
-- without its trailing white space, then a `-`.
abbrev pub initials_separator : List ℕ → Bool → List ℕ
initials_separator text hyphen = if hyphen then trim_end text ++ codes "-" else text

-- the initials of a word
abbrev pub word_initials : List ℕ → Bool → List (List ℕ) → List ℕ
word_initials text hyphen [] = []
word_initials text hyphen (g ∷ []) = g
word_initials text hyphen (g ∷ h ∷ gs) = g ++ (initials_separator text hyphen ++ word_initials text hyphen (h ∷ gs))

-- The initials of words that each have some. The given text follows the initials of each word; at
-- the end it loses its trailing white space.
abbrev pub all_initials : List ℕ → Bool → List (List (List ℕ)) → List ℕ
all_initials text hyphen [] = []
all_initials text hyphen (w ∷ []) = word_initials text hyphen w ++ trim_end text
all_initials text hyphen (w ∷ v ∷ ws) = word_initials text hyphen w ++ (text ++ all_initials text hyphen (v ∷ ws))

-- the initials of a given name
abbrev pub initials : List ℕ → Bool → List ℕ → List ℕ
initials text hyphen given = all_initials text hyphen (filter is_nonempty (map initials_of (given_words given)))

-- the initials of a person; without a given name there are none
abbrev pub optional_initials : List ℕ → Bool → Option (List ℕ) → List ℕ
optional_initials text hyphen None = []
optional_initials text hyphen (Some given) = initials text hyphen given

abbrev pub person_initials : Option (List ℕ) → Bool → PersonView → List ℕ
person_initials text hyphen p = optional_initials (unwrap_or text []) hyphen p.given_name
