-- A text is one text of the tree in the inherited formatting (CSL 1.0.2, Formatting). If periods
-- are stripped (Strip-periods), it loses each `.` first. An empty rest writes nothing (`text_in`).
-- A normal chunk is such a text, a verbatim one keeps its periods, and mathematics becomes markup.
-- The text and the address of a link keep their periods. The place of a cite that the caller writes
-- is a transparent. *Affixed* (Affixes): nothing if the content is empty, else prefix, content and
-- suffix, the two affixes as texts in the inherited formatting. A gap (`wanted_space`) is a space,
-- unless there is no text yet or the text ends in white space.
use Rattle.std.specs.Prelude.{ℕ, Bool, not, ◌&&◌, ◌==◌, List, [], ◌∷◌, Option, Some, None, filter, encode_utf8_all, if◌then◌else◌}
use Rattle.std.specs.Str.{chars}
use Rattle.lit_model.specs.Characters.{dot_char, space_char}
use Rattle.lit_model.specs.Text.{Chunk}
use Rattle.lit_model.specs.declared.text.ChunkKind.TheVariants.{Normal, Verbatim, Math}
use Rattle.lit_model.specs.declared.text.ChunkKind.{ChunkKind}
use Rattle.csl_elements.specs.Dressing.{AffixTexts}
use Rattle.csl_tree.specs.declared.formatting.Formatting.{Formatting}
use Rattle.csl_tree.specs.Tokens.{Token, solid, transparent, has_text, ends_in_white_space}
use Rattle.csl_tree.specs.Content.{◌++>◌, text_content, markup_content, link_content, affixed_content}
use Rattle.csl_context.specs.State.{Inherited}

abbrev pub is_no_period : ℕ → Bool
is_no_period c = not (c == dot_char)

-- a text without its periods
unfoldable pub without_periods : List ℕ → List ℕ
without_periods bs = encode_utf8_all (filter is_no_period (chars bs))

-- a text, without its periods if they are stripped
abbrev pub strip_if : Bool → List ℕ → List ℕ
strip_if stripping bs = if stripping then without_periods bs else bs

-- the content of a text in a formatting, without its periods if they are stripped
abbrev pub formatted_text : Bool → Formatting → List ℕ → List Token
formatted_text stripping f bs = text_content (strip_if stripping bs) f

abbrev pub optional_formatted_text : Bool → Formatting → Option (List ℕ) → List Token
optional_formatted_text stripping f None = []
optional_formatted_text stripping f (Some bs) = formatted_text stripping f bs

-- the bytes of a text, if there is one, without its periods if they are stripped
abbrev pub optional_strip_if : Bool → Option (List ℕ) → List ℕ
optional_strip_if stripping None = []
optional_strip_if stripping (Some bs) = strip_if stripping bs

-- the content of a text with the inherited formatting and stripping
abbrev pub text_in : Inherited → List ℕ → List Token
text_in inh bs = formatted_text inh.strip_periods inh.formatting bs

abbrev pub text_in_if : Inherited → Option (List ℕ) → List Token
text_in_if inh text = optional_formatted_text inh.strip_periods inh.formatting text

-- a chunk of a text: a verbatim one keeps its periods, mathematics becomes markup
abbrev pub chunk_in_kind : Inherited → ChunkKind → List ℕ → List Token
chunk_in_kind inh Normal bs = text_in inh bs
chunk_in_kind inh Verbatim bs = text_content bs inh.formatting
chunk_in_kind inh Math bs = markup_content bs

abbrev pub chunk_in : Inherited → Chunk → List Token
chunk_in inh c = chunk_in_kind inh c.kind c.value

-- the content of a list of chunks
abbrev pub chunks_in : Inherited → List Chunk → List Token
chunks_in inh [] = []
chunks_in inh (c ∷ cs) = chunk_in inh c ++> chunks_in inh cs

-- a link, whose text keeps its periods
abbrev pub link_in : Inherited → List ℕ → List ℕ → List Token
link_in inh bs url = link_content bs inh.formatting url

-- the place of a cite that the caller writes
abbrev pub transparent_in : Inherited → ℕ → List Token
transparent_in inh index = solid (transparent index inh.formatting) ∷ []

-- a space, unless there is no text yet or the text ends in white space
abbrev pub wanted_space : List Token → List ℕ
wanted_space ts = if has_text ts && not (ends_in_white_space ts) then space_char ∷ [] else []

-- Affixed: a content between two texts
abbrev pub between_in : Inherited → Option (List ℕ) → Option (List ℕ) → List Token → List Token
between_in inh prefix suffix c = affixed_content (text_in_if inh prefix) (text_in_if inh suffix) c

abbrev pub affixed_in : Inherited → AffixTexts → List Token → List Token
affixed_in inh a c = between_in inh a.prefix a.suffix c
