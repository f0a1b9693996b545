-- A text is a list of chunks. Each chunk is a run of bytes with a kind: normal, verbatim or
-- mathematics. A format string is a text that may have a short form. `select` returns the short
-- form if the style requests Short and there is one, else the whole text (CSL 1.0.2, Text, `form`).
use Rattle.std.specs.Prelude.{ℕ, List, [], ◌∷◌, map, Option, None, option_map, string_bytes, unwrap_or}
use Rattle.lit_model.specs.declared.text.StringChunk.{StringChunk}
use Rattle.lit_model.specs.declared.text.ChunkKind.{ChunkKind}
use Rattle.lit_model.specs.declared.text.ChunkKind.TheVariants.{Normal}
use Rattle.lit_model.specs.declared.text.ChunkedString.{ChunkedString}
use Rattle.lit_model.specs.declared.text.FormatString.{FormatString}
use Rattle.csl_common.specs.declared.form.LongShortForm.{LongShortForm}
use Rattle.csl_common.specs.declared.form.LongShortForm.TheVariants.{Long, Short}

-- a piece of a text, by its bytes
pub record Chunk : Type 0 where
  pub value : List ℕ
  pub kind : ChunkKind

abbrev pub chunk_of : StringChunk → Chunk
chunk_of c = record { value = string_bytes c.value; kind = c.kind }

-- a text in pieces
abbrev pub chunks : ChunkedString → List Chunk
chunks t = map chunk_of t.0.items

-- a text with its short form
pub record FormatStringView : Type 0 where
  pub value : List Chunk
  pub short : Option (List Chunk)

abbrev pub format_string_view : FormatString → FormatStringView
format_string_view t = record { value = chunks t.value; short = option_map chunks t.short }

-- a text in one piece that a style may change; in `plain_forms` it has no short form
abbrev pub in_one_piece : List ℕ → List Chunk
in_one_piece text = record { value = text; kind = Normal } ∷ []

abbrev pub plain_forms : List ℕ → FormatStringView
plain_forms text = record { value = in_one_piece text; short = None }

-- the text in a form: the short form if it is requested and there is one, else the whole text
abbrev pub select : LongShortForm → FormatString → ChunkedString
select Long t = t.value
select Short t = unwrap_or t.short t.value
