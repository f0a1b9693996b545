-- The initials of `Initials`, each after its gap. The gap is empty before the first initial. Before
-- any other it depends on whether the initial before it belongs to the same word.
use Rattle.std.specs.Prelude.{ℕ, Bool, List, [], ◌∷◌, ◌++◌}
use Rattle.std.specs.Str.{trim_end}
use Rattle.lit_model.specs.Initials.{initials_separator}
use Rattle.lit_model.specs.declared.initials.Before.{Before}
use Rattle.lit_model.specs.declared.initials.Before.TheVariants.{Nothing, Word, Piece}

-- the gap before an initial: empty before the first, the given text after another word, else the
-- separator of initials in one word
abbrev pub gap : List ℕ → Bool → Before → List ℕ
gap text hyphen Nothing = []
gap text hyphen Word = text
gap text hyphen Piece = initials_separator text hyphen

-- the initials of one word, each after its gap
abbrev pub word_text : List ℕ → Bool → Before → List (List ℕ) → List ℕ
word_text text hyphen before [] = []
word_text text hyphen before (g ∷ gs) = gap text hyphen before ++ (g ++ word_text text hyphen Piece gs)

-- the position of the next initial, in the same word or (`before_word`) in the next word
abbrev pub before_piece : Before → List (List ℕ) → Before
before_piece before [] = before
before_piece before (g ∷ gs) = Piece

abbrev pub before_word : Before → Before
before_word Nothing = Nothing
before_word Word = Word
before_word Piece = Word

-- the text after the last initial: the given text without its trailing white space
abbrev pub end_text : List ℕ → Before → List ℕ
end_text text Nothing = []
end_text text Word = trim_end text
end_text text Piece = trim_end text

-- the initials of words, each initial after its gap, and the text at the end
abbrev pub words_text : List ℕ → Bool → Before → List (List (List ℕ)) → List ℕ
words_text text hyphen before [] = end_text text before
words_text text hyphen before (w ∷ ws) = word_text text hyphen before w ++ words_text text hyphen (before_word (before_piece before w)) ws
