-- The parts of a person's name.
-- - An *institution* has no given name, no prefix and no suffix, not even an empty one.
-- - A *CJK name*: the name and the given name together have a letter, and each of their letters has
--   the script Han, Hiragana, Katakana, Hangul or Bopomofo. A letter has the property Alphabetic
--   (Unicode Standard, DerivedCoreProperties). Its script is the property Script (UAX #24), not
--   Script_Extensions.
-- - The *particle*: the name is cut at each space (U+0020), and empty words count. A particle word
--   begins with a character of general category Ll (UAX #44). The particle is the longest run of
--   particle words at the front that leaves at least the last word. If the run is empty, there is
--   no particle. The rest of the name is the text after the particle and one space.
-- - The *article*: a name that begins with `The `, `the `, `A `, `a `, `An ` or `an ` loses this
--   text if more follows. Any other name is unchanged.
use Rattle.std.specs.Prelude.{ℕ, Bool, true, false, not, ◌&&◌, ◌==◌, List, [], ◌∷◌, ◌++◌, filter, drop, length, Option, Some, None, is_some, unwrap_or, codes, nat_lt, chars, if◌then◌else◌}
use Rattle.std.specs.Option.{option_or}
use Rattle.std.specs.List.{list_all, slice_split, join_with_byte, starts_with}
use Rattle.unicode.specs.Binary.{is_alphabetic}
use Rattle.unicode.specs.GeneralCategory.{general_category}
use Rattle.unicode.specs.Script.{script}
use Rattle.ucd_category.specs.declared.GeneralCategory.{GeneralCategory}
use Rattle.ucd_category.specs.declared.GeneralCategory.TheVariants.{LowercaseLetter}
use Rattle.ucd_script.specs.declared.Script.{Script}
use Rattle.ucd_script.specs.declared.Script.TheVariants.{Han, Hiragana, Katakana, Hangul, Bopomofo}
use Rattle.lit_model.specs.Characters.{space_char}
use Rattle.lit_model.specs.Person.{PersonView}

-- ---- institutions

-- whether there is no given name, no prefix and no suffix
abbrev pub is_institutional : PersonView → Bool
is_institutional p = not (is_some p.given_name) && (not (is_some p.prefix) && not (is_some p.suffix))

-- ---- CJK names

-- whether the script is one of Chinese, Japanese or Korean
abbrev pub is_cjk_script : Script → Bool
is_cjk_script Han = true
is_cjk_script Hiragana = true
is_cjk_script Katakana = true
is_cjk_script Hangul = true
is_cjk_script Bopomofo = true
is_cjk_script _ = false

-- the alphabetic characters of a text
abbrev pub letters : List ℕ → List ℕ
letters text = filter is_alphabetic (chars text)

-- whether there are letters and each has a script of Chinese, Japanese or Korean
abbrev pub are_cjk : List ℕ → Bool
are_cjk cs = nat_lt 0 (length cs) && list_all (λ c. is_cjk_script (script c)) cs

-- the given name, or an empty text
abbrev pub given_or_empty : PersonView → List ℕ
given_or_empty p = unwrap_or p.given_name []

-- whether the name and the given name together have letters, all in CJK scripts
abbrev pub is_cjk : PersonView → Bool
is_cjk p = are_cjk (letters p.name ++ letters (given_or_empty p))

-- ---- particles

-- the words of a text, cut at each space
abbrev pub words : List ℕ → List (List ℕ)
words text = slice_split (λ b. b == space_char) text

abbrev pub is_lowercase_letter : GeneralCategory → Bool
is_lowercase_letter LowercaseLetter = true
is_lowercase_letter _ = false

abbrev pub first_is_lowercase : List ℕ → Bool
first_is_lowercase [] = false
first_is_lowercase (c ∷ cs) = is_lowercase_letter (general_category c)

-- whether a word begins with a lowercase letter (general category Ll)
abbrev pub is_particle_word : List ℕ → Bool
is_particle_word word = first_is_lowercase (chars word)

-- the longest run of particle words at the front; the last word is never part of it
abbrev pub particle_words : List (List ℕ) → List (List ℕ)
particle_words [] = []
particle_words (w ∷ []) = []
particle_words (w ∷ v ∷ ws) = if is_particle_word w then w ∷ particle_words (v ∷ ws) else []

-- the words after the particle words
abbrev pub after_particle : List (List ℕ) → List (List ℕ)
after_particle [] = []
after_particle (w ∷ []) = w ∷ []
after_particle (w ∷ v ∷ ws) = if is_particle_word w then after_particle (v ∷ ws) else w ∷ v ∷ ws

-- the words with a space between each two, if there are any
abbrev pub join_words : List (List ℕ) → Option (List ℕ)
join_words [] = None
join_words (w ∷ ws) = Some (join_with_byte space_char (w ∷ ws))

-- the particle of a name, if it has one
abbrev pub name_particle : List ℕ → Option (List ℕ)
name_particle name = join_words (particle_words (words name))

-- the name after its particle and one space
abbrev pub name_without_particle : List ℕ → List ℕ
name_without_particle name = join_with_byte space_char (after_particle (words name))

-- ---- articles

-- the rest of the text after the article, if the text begins with the article and more follows
abbrev pub strip_article : List ℕ → List ℕ → Option (List ℕ)
strip_article article text = if starts_with ◌==◌ text article && nat_lt (length article) (length text) then Some (drop (length article) text) else None

-- the first result of `strip_article` over the articles, if there is one
abbrev pub strip_any_article : List (List ℕ) → List ℕ → Option (List ℕ)
strip_any_article [] text = None
strip_any_article (a ∷ articles) text = option_or (strip_article a text) (strip_any_article articles text)

-- the English articles, each with a space after it
abbrev pub articles : List (List ℕ)
articles = codes "The " ∷ codes "the " ∷ codes "A " ∷ codes "a " ∷ codes "An " ∷ codes "an " ∷ []

-- the name without the article at its front, if it has one
abbrev pub name_without_article : List ℕ → List ℕ
name_without_article name = unwrap_or (strip_any_article articles name) name
