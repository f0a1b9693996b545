-- Text in HTML: `&`, `<`, `>` and `"` are written as `&amp;`, `&lt;`, `&gt;` and `&quot;`, all
-- other characters as themselves. The four are ASCII, so their bytes are not part of any other
-- character.
use Rattle.std.specs.Prelude.{◌≡◌, ℕ, Bool, false, not, ◌||◌, ◌==◌, List, [], ◌∷◌, codes, if◌then◌else◌}
use Rattle.std.specs.List.{flat_map}

abbrev pub ampersand : ℕ
ampersand = 38

abbrev pub less_than : ℕ
less_than = 60

abbrev pub greater_than : ℕ
greater_than = 62

abbrev pub quotation_mark : ℕ
quotation_mark = 34

-- a byte in HTML
abbrev pub escape : ℕ → List ℕ
escape b =
    if b == ampersand then codes "&amp;"
    else (if b == less_than then codes "&lt;"
    else (if b == greater_than then codes "&gt;"
    else (if b == quotation_mark then codes "&quot;" else b ∷ [])))

-- a text in HTML
abbrev pub escape_all : List ℕ → List ℕ
escape_all bs = flat_map escape bs

abbrev pub is_reserved : ℕ → Bool
is_reserved b = b == ampersand || (b == less_than || (b == greater_than || b == quotation_mark))

-- HTML writes the byte as itself
abbrev pub is_plain : ℕ → Bool
is_plain b = not (is_reserved b)

abbrev pub starts_plain : List ℕ → Bool
starts_plain [] = false
starts_plain (b ∷ bs) = is_plain b

-- the text is one byte and the rest, and the reference is that byte in HTML
abbrev pub BeginsEscaped : List ℕ → List ℕ → List ℕ → Type 0
BeginsEscaped text reference rest = (b : ℕ) × (reference ≡ escape b) × (text ≡ b ∷ rest)
