-- The words of `FirstNames`, each after a gap. After a marked letter, the gap is the white space at
-- the end of the given text, or a space if there is none. After any other word, it is a space.
use Rattle.std.specs.Prelude.{ℕ, List, [], ◌∷◌, ◌++◌, Option, Some, None, codes, length, drop, if◌then◌else◌}
use Rattle.std.specs.Str.{trim_end}
use Rattle.lit_model.specs.FirstNames.{single_letter, last_letter_or_word, ends_in_white_space}

-- The gap after a word. After a single letter, it is the white space at the end of the given text,
-- or a space if there is none.
abbrev pub gap_after : List ℕ → Option (List ℕ) → List ℕ
gap_after text None = codes " "
gap_after text (Some letter) = if ends_in_white_space text then drop (length (trim_end text)) text else codes " "

-- the words, each after its gap
abbrev pub names_text : List ℕ → List ℕ → List (List ℕ) → List ℕ
names_text text gap [] = []
names_text text gap (w ∷ ws) = gap ++ (last_letter_or_word text (single_letter w) w ++ names_text text (gap_after text (single_letter w)) ws)
