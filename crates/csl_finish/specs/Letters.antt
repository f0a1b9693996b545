-- Letters and digits (Unicode: Alphabetic or Numeric) among the characters of a content, each with the
-- index of its text. A character of a link or a markup has no index. Finishing may change, move and
-- drop marks, spaces and quotes. Each letter and digit stays in its text, in their order.
use Rattle.std.specs.Prelude.{ℕ, Bool, ◌||◌, List, [], ◌∷◌, Option, Some, None, filter, map, if◌then◌else◌}
use Rattle.std.specs.Char.Unicode.Alphabetic.{is_alphabetic}
use Rattle.std.specs.Char.Unicode.Numeric.{is_numeric}
use Rattle.std.specs.List.{flat_map}
use Rattle.std.specs.Str.{chars}
use Rattle.csl_tree.specs.Tokens.{Token, text, solid, markup, link, transparent, elem_start, elem_end}
use Rattle.csl_finish.specs.declared.letters.Letter.{Letter}

abbrev pub is_word_char : ℕ → Bool
is_word_char c = is_alphabetic c || is_numeric c

-- the letters and digits of a text
abbrev pub words_of : List ℕ → List ℕ
words_of bs = filter is_word_char (chars bs)

-- characters of the text with an index; those of links and markup are left out
abbrev pub placed : Option ℕ → List ℕ → List (ℕ × ℕ)
placed None cs = []
placed (Some k) cs = map (λ c. (k, c)) cs

-- the character, if it is a letter or a digit
abbrev pub word : ℕ → List ℕ
word c = if is_word_char c then c ∷ [] else []

abbrev pub word_of : Letter → List (ℕ × ℕ)
word_of l = placed l.text (word l.value)

abbrev pub words : List Letter → List (ℕ × ℕ)
words ls = flat_map word_of ls

-- a content without the characters of its texts: links, markup, places, elements, and the formatting
-- of each text, in order
abbrev pub bare : Token → Token
bare (text bs f) = text [] f
bare (solid (markup bs)) = solid (markup bs)
bare (solid (link bs f url)) = solid (link bs f url)
bare (solid (transparent n f)) = solid (transparent n f)
bare (solid (elem_start d m)) = solid (elem_start d m)
bare (solid (elem_end d)) = solid (elem_end d)

abbrev pub bares : List Token → List Token
bares ts = map bare ts
