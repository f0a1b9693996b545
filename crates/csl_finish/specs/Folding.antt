-- Texts to sort by. A text is decomposed (NFKD) and folded (full case folding), and then each of its
-- characters becomes what it sorts as: the mark of an era if it begins the key of a year, the letters
-- of a Latin letter that Unicode does not decompose, itself if it counts, and else nothing.
use Rattle.std.specs.Prelude.{ℕ, Bool, ◌||◌, ◌&&◌, ◌==◌, nat_le, List, [], ◌∷◌, ◌++◌, Option, Some, None, chars, codes, encode_utf8_all, length, option_map, take, if◌then◌else◌}
use Rattle.std.specs.Char.{is_ascii_digit}
use Rattle.std.specs.List.{list_all}
use Rattle.std.specs.Option.{unwrap_or}
use Rattle.caseless.specs.Caseless.{default_case_fold}
use Rattle.unicode_normalization.specs.Forms.{nfkd}
use Rattle.csl_finish.specs.Letters.{is_word_char}

-- the mark of an era: `!` for the years before year 0, whose keys begin with `N`, and `#` for the
-- others, whose keys begin with `P`
abbrev pub era_mark : ℕ → Option ℕ
era_mark c = if c == 110 then Some 33 else if c == 112 then Some 35 else None

-- æ, ð, đ, ħ, ı, ł, ŋ, ø, œ, þ and ŧ
abbrev pub base_of : ℕ → Option (List ℕ)
base_of c =
    if c == 230 then Some (codes "ae")
    else if c == 240 then Some (codes "d")
    else if c == 254 then Some (codes "th")
    else if c == 248 then Some (codes "o")
    else if c == 273 then Some (codes "d")
    else if c == 295 then Some (codes "h")
    else if c == 305 then Some (codes "i")
    else if c == 322 then Some (codes "l")
    else if c == 331 then Some (codes "n")
    else if c == 339 then Some (codes "oe")
    else if c == 359 then Some (codes "t")
    else None

abbrev pub counts : ℕ → Bool
counts c = (c == 32) || is_word_char c

-- the nine digits of a year
abbrev pub begins_with_year : List ℕ → Bool
begins_with_year cs = nat_le 9 (length cs) && list_all is_ascii_digit (take 9 cs)

-- the mark of an era, if the character, before these, begins the key of a year
abbrev pub era_of : ℕ → List ℕ → Option ℕ
era_of c after = if begins_with_year after then era_mark c else None

abbrev pub counted : ℕ → List ℕ
counted c = if counts c then c ∷ [] else []

-- what a character sorts as, where these follow
abbrev pub folded_char : ℕ → List ℕ → List ℕ
folded_char c after = unwrap_or (option_map (λ era. era ∷ []) (era_of c after)) (unwrap_or (base_of c) (counted c))

abbrev pub folded_chars : List ℕ → List ℕ
folded_chars [] = []
folded_chars (c ∷ after) = folded_char c after ++ folded_chars after

abbrev pub folded : List ℕ → List ℕ
folded text = encode_utf8_all (folded_chars (default_case_fold (nfkd (chars text))))
