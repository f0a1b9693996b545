-- The letters of a year suffix (CSL 1.0.2, Disambiguation, `disambiguate-add-year-suffix`). A word
-- is one or more letters from a to z. Words are ordered by length, and words of one length by the
-- first letter in which they differ. Word 0 is `a`. The next word has the next letter at its end.
-- After z comes `a`, and the letter before it moves on the same way; if there is none, another `a`
-- is added in front. A year suffix is one of the words 0 to 65,535.
use Rattle.std.specs.Prelude.{ℕ, zero, suc, reverse, if◌then◌else◌, ◌==◌, ◌+◌, ◌-◌, ◌*◌, ◌^◌, ◌<◌, ◌≤◌, ◌≡◌, ◌⊎◌, List, [], ◌∷◌, length}

-- the byte before `a`
abbrev pub before_a : ℕ
before_a = 96

abbrev pub letter_a : ℕ
letter_a = 97

abbrev pub letter_z : ℕ
letter_z = 122

-- letters from a to z
abbrev pub AreLetters : List ℕ → Type 0
AreLetters [] = Unit {0}
AreLetters (c ∷ cs) = (letter_a ≤ c) × (c ≤ letter_z) × AreLetters cs

-- one or more letters from a to z
abbrev pub IsWord : List ℕ → Type 0
IsWord w = (0 < length w) × AreLetters w

-- where the words first differ, both have a letter, and that of the first word is earlier
abbrev pub IsEarlier : List ℕ → List ℕ → Type 0
IsEarlier (c ∷ cs) (d ∷ ds) = (c < d) ⊎ ((c ≡ d) × IsEarlier cs ds)
IsEarlier _ _ = ⊥

-- the order of words, by length and then by alphabet
abbrev pub StandsBefore : List ℕ → List ℕ → Type 0
StandsBefore v w = (length v < length w) ⊎ ((length v ≡ length w) × IsEarlier v w)

-- the value of a word in base 26, where the letters are the digits 1 to 26
abbrev pub word_value : List ℕ → ℕ
word_value [] = 0
word_value (c ∷ cs) = (c - before_a) * 26 ^ length cs + word_value cs

-- the place of a word, from 0
abbrev pub word_index : List ℕ → ℕ
word_index w = word_value w - 1

-- the next word, last letter first: after z comes a, and then the letter before it moves on
abbrev pub next_reversed : List ℕ → List ℕ
next_reversed [] = letter_a ∷ []
next_reversed (c ∷ cs) = (if c == letter_z then letter_a ∷ next_reversed cs else (c + 1) ∷ cs)

-- the word that is n words after `a`, last letter first
abbrev pub reversed_word : ℕ → List ℕ
reversed_word zero = letter_a ∷ []
reversed_word (suc n) = next_reversed (reversed_word n)

-- word number n
abbrev pub letters : ℕ → List ℕ
letters n = reverse (reversed_word n)
