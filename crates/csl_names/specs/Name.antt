-- One name (CSL 1.0.2, Name; Name-part; `name-as-sort-order`, `demote-non-dropping-particle`,
-- `initialize-with`, `sort-separator`) is a list of pieces (`one_name`). It depends on the form, on
-- whether the name is reversed, and on the settings (`NameStyleView`): the two parts with their
-- formattings and affixes, the separator, the text after initials, whether these keep a hyphen,
-- whether a particle is demoted, and whether the name is in a sort key. `name_content` is the
-- content of these pieces alone, so its gaps depend on this name only. `part_style_view`,
-- `name_style_view` and `given_or_empty` serve the code: only private contracts cite them.
use Rattle.std.specs.Prelude.{ℕ, Bool, true, false, ◌||◌, List, [], ◌∷◌, ◌++◌, Option, Some, None, option_map, unwrap_or, if◌then◌else◌}
use Rattle.lit_model.specs.Person.{PersonView}
use Rattle.lit_model.specs.Name.{is_institutional, is_cjk, name_particle, name_without_particle, name_without_article}
use Rattle.lit_model.specs.Initials.{initials, given_words}
use Rattle.lit_model.specs.FirstNames.{lettered_words}
use Rattle.csl_elements.specs.declared.formatting.Formatting as partial
use Rattle.csl_elements.specs.NamesParts.{no_formatting}
use Rattle.csl_elements.specs.Dressing.{AffixTexts}
use Rattle.csl_tree.specs.Tokens.{Token}
use Rattle.csl_entry.specs.declared.forms.name_form.DisambiguatedNameForm.{DisambiguatedNameForm}
use Rattle.csl_entry.specs.declared.forms.name_form.DisambiguatedNameForm.TheVariants.{Count, ShortInitialized, ShortFull, LongInitialized, LongFull}
use Rattle.csl_entry.specs.NameForm.{shows_given_name}
use Rattle.csl_context.specs.State.{Inherited}
use Rattle.csl_names.specs.declared.part.PartStyle.{PartStyle}
use Rattle.csl_names.specs.declared.name.NameStyle.{NameStyle}
use Rattle.csl_names.specs.Piece.{Piece, word, gap, optional_word, spaced_word, append_pieces}

-- ---- settings of a name

-- a part of a name: its formatting, and its affixes
pub record PartStyleView : Type 0 where
  pub formatting : partial.Formatting
  pub affixes : AffixTexts

abbrev pub part_style_view : PartStyle → PartStyleView
part_style_view p = record {
  formatting = p.formatting;
  affixes = record { prefix = option_map (λ t. t.now) p.prefix; suffix = option_map (λ t. t.now) p.suffix };
}

-- The two parts; the separator after a family name that comes first; the text after an initial, if
-- given names are shortened; whether initials keep a hyphen; whether a particle is demoted; whether
-- the name is in a sort key.
pub record NameStyleView : Type 0 where
  pub given : PartStyleView
  pub family : PartStyleView
  pub separator : List ℕ
  pub initialize_with : Option (List ℕ)
  pub hyphen : Bool
  pub demotes : Bool
  pub sorting : Bool

abbrev pub name_style_view : NameStyle → NameStyleView
name_style_view s = record {
  given = part_style_view s.given;
  family = part_style_view s.family;
  separator = s.separator.now;
  initialize_with = option_map (λ t. t.now) s.initialize_with;
  hyphen = s.hyphen;
  demotes = s.demotes;
  sorting = s.sorting;
}

-- ---- words of a name
-- A *part* is its prefix and a text, both in the part's formatting, and then its suffix outside of
-- that. The *given block* is the given part's prefix, the first name, a gap and the person's
-- prefix, in the given part's formatting. The *first name* is the given name as it is, if there is
-- no `initialize-with`. With it, the first name is the initials in the form `LongInitialized`. In
-- any other form each word of one capital letter, with or without a dot, becomes that letter and
-- the text of `initialize-with` (`lettered_name`).

-- a text as a part of a name: prefix and text in the part's formatting, the suffix outside
abbrev pub part_text : PartStyleView → List ℕ → List Piece
part_text part name =
    optional_word part.affixes.prefix part.formatting
    ++ (word name part.formatting ∷ optional_word part.affixes.suffix no_formatting)

-- the separator and a text, if there is a text
abbrev pub separated_word : List ℕ → Option (List ℕ) → List Piece
separated_word separator None = []
separated_word separator (Some bs) = word separator no_formatting ∷ word bs no_formatting ∷ []

-- the given name; each word of one capital letter, with or without a dot, becomes that letter and
-- the text
abbrev pub lettered_name : List ℕ → List ℕ → List ℕ
lettered_name text given = lettered_words text (given_words given)

-- the shortened given name: the initials in the form `LongInitialized`, else `lettered_name`
abbrev pub initialized_given : List ℕ → Bool → DisambiguatedNameForm → List ℕ → List ℕ
initialized_given text hyphen Count given = lettered_name text given
initialized_given text hyphen ShortInitialized given = lettered_name text given
initialized_given text hyphen ShortFull given = lettered_name text given
initialized_given text hyphen LongInitialized given = initials text hyphen given
initialized_given text hyphen LongFull given = lettered_name text given

-- the given name of a person; without one, no text
abbrev pub given_or_empty : PersonView → List ℕ
given_or_empty p = unwrap_or p.given_name []

-- the given name as it is written
abbrev pub given_text : Option (List ℕ) → Bool → DisambiguatedNameForm → List ℕ → List ℕ
given_text None hyphen form given = given
given_text (Some text) hyphen form given = initialized_given text hyphen form given

-- the given name in its part's formatting, if there is one
abbrev pub given_word : NameStyleView → DisambiguatedNameForm → PersonView → List Piece
given_word settings form p =
    optional_word (option_map (given_text settings.initialize_with settings.hyphen form) p.given_name) settings.given.formatting

-- the given part's prefix, the given name and the person's prefix, in the given part's formatting
abbrev pub given_block : NameStyleView → DisambiguatedNameForm → PersonView → List Piece
given_block settings form p =
    optional_word settings.given.affixes.prefix settings.given.formatting
    ++ (given_word settings form p ++ spaced_word p.prefix settings.given.formatting)

-- the family name that comes first, and the demoted particle
abbrev pub leading_name : NameStyleView → PersonView → List ℕ
leading_name settings p = if settings.demotes then name_without_particle p.name else p.name

abbrev pub demoted_particle : NameStyleView → PersonView → Option (List ℕ)
demoted_particle settings p = if settings.demotes then name_particle p.name else None

-- ---- shapes of a name
-- The first case that fits counts.
-- - An institution in sorting: its name without article in the family part's formatting, without
--   affixes. Any other institution: the family part of its name.
-- - A form without given names: the family part of the name alone.
-- - A name in a Chinese, Japanese or Korean script: both parts without a gap, the family part
--   first.
-- - In sorting, or reversed: the family part of the name without a demoted particle; if there is a
--   given name, the separator, the given block, a gap and the demoted particle, and the given
--   suffix; then the separator and the suffix of the person.
-- - Else: the given block and the given suffix, a gap, the family prefix and the name, the suffix
--   of the person after a gap (and after the separator if it wants a comma), the family suffix.
-- If a person lacks a text, the gap and the separator before it are left out too. So without a
-- given name a demoted particle is dropped. The given part's affixes stay without a given name if
-- that would come first, but not if it would come second.

-- the pieces after a family name that comes first, if there is a given name
abbrev pub given_after_family : NameStyleView → DisambiguatedNameForm → PersonView → Option (List ℕ) → List Piece
given_after_family settings form p None = []
given_after_family settings form p (Some given) =
    word settings.separator no_formatting
    ∷ (given_block settings form p ++ (spaced_word (demoted_particle settings p) no_formatting ++ optional_word settings.given.affixes.suffix no_formatting))

-- `Gogh, Vincent van, Jr.`
abbrev pub family_first : NameStyleView → DisambiguatedNameForm → PersonView → List Piece
family_first settings form p =
    part_text settings.family (leading_name settings p)
    ++ (given_after_family settings form p p.given_name ++ separated_word settings.separator p.suffix)

-- the suffix of a person, after the separator if it wants a comma
abbrev pub suffix_after_name : NameStyleView → Bool → Option (List ℕ) → List Piece
suffix_after_name settings comma None = []
suffix_after_name settings true (Some bs) = word settings.separator no_formatting ∷ gap no_formatting ∷ word bs no_formatting ∷ []
suffix_after_name settings false (Some bs) = gap no_formatting ∷ word bs no_formatting ∷ []

-- `Vincent van Gogh Jr.`
abbrev pub given_first : NameStyleView → DisambiguatedNameForm → PersonView → List Piece
given_first settings form p =
    given_block settings form p
    ++ (optional_word settings.given.affixes.suffix no_formatting
    ++ (gap no_formatting ∷ (optional_word settings.family.affixes.prefix settings.family.formatting
    ++ (word p.name settings.family.formatting
    ∷ (suffix_after_name settings p.comma_suffix p.suffix ++ optional_word settings.family.affixes.suffix no_formatting)))))

abbrev pub cjk_given : NameStyleView → Option (List ℕ) → List Piece
cjk_given settings None = []
cjk_given settings (Some given) = part_text settings.given given

-- a name in a Chinese, Japanese or Korean script: no gap between its parts
abbrev pub cjk_name : NameStyleView → PersonView → List Piece
cjk_name settings p = part_text settings.family p.name ++ cjk_given settings p.given_name

-- an institution; in a sort key it has no article and no affixes
abbrev pub institution : NameStyleView → PersonView → List Piece
institution settings p =
    if settings.sorting then word (name_without_article p.name) settings.family.formatting ∷ [] else part_text settings.family p.name

abbrev pub long_name : NameStyleView → DisambiguatedNameForm → Bool → PersonView → List Piece
long_name settings form reversed p =
    if is_cjk p then cjk_name settings p
    else (if settings.sorting || reversed then family_first settings form p else given_first settings form p)

-- One name. The first case that fits counts.
abbrev pub one_name : NameStyleView → DisambiguatedNameForm → Bool → PersonView → List Piece
one_name settings form reversed p =
    if is_institutional p then institution settings p
    else (if shows_given_name form then long_name settings form reversed p else part_text settings.family p.name)

-- the content of one name with these inherited values: the gaps depend on this name alone
abbrev pub name_content : NameStyleView → DisambiguatedNameForm → Bool → PersonView → Inherited → List Token
name_content settings form reversed p inh = append_pieces inh (one_name settings form reversed p) []
