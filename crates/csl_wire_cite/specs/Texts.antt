-- Which texts JSON values are read as (CSL 1.0.2, Standard Variables; Text, `form`). A text is one
-- piece, which a style may change, or a list of pieces. A piece that no style changes is an object
-- with one member: `verbatim` or `math`. A text in two forms is an object with `long` and perhaps
-- `short`; without it the short form is the long one.
use Rattle.std.specs.Prelude.{ℕ, List, Option, Some, None, option_map, option_and_then, codes}
use Rattle.serde_json.specs.Data.{Data, Members}
use Rattle.serde_json.specs.Find.{as_object, as_str}
use Rattle.lit_model.specs.declared.text.ChunkKind.{ChunkKind}
use Rattle.lit_model.specs.declared.text.ChunkKind.TheVariants.{Normal, Verbatim, Math}
use Rattle.lit_model.specs.Text.{Chunk, in_one_piece}
use Rattle.csl_wire.specs.Reading.{member}
use Rattle.csl_wire_cite.specs.Reads.{read_list_of}

abbrev pub piece_of : ChunkKind → List ℕ → Chunk
piece_of kind text = record { value = text; kind = kind }

-- the piece of an object with these members
abbrev pub read_unchanged : Option Data → Option Data → Option Chunk
read_unchanged None None = None
read_unchanged None (Some math) = option_map (piece_of Math) (as_str math)
read_unchanged (Some verbatim) None = option_map (piece_of Verbatim) (as_str verbatim)
read_unchanged (Some verbatim) (Some math) = None

abbrev read_piece_or : Option (List ℕ) → Data → Option Chunk
read_piece_or (Some text) d = Some (piece_of Normal text)
read_piece_or None d = read_unchanged (member (codes "verbatim") d) (member (codes "math") d)

abbrev pub read_piece : Data → Option Chunk
read_piece d = read_piece_or (as_str d) d

abbrev read_text_or : Option (List ℕ) → Data → Option (List Chunk)
read_text_or (Some text) d = Some (in_one_piece text)
read_text_or None d = read_list_of read_piece d

abbrev pub read_text : Data → Option (List Chunk)
read_text d = read_text_or (as_str d) d

abbrev read_long_of : Option Members → Data → Option (List Chunk)
read_long_of None d = read_text d
read_long_of (Some ms) d = option_and_then read_text (member (codes "long") d)

abbrev pub read_long : Data → Option (List Chunk)
read_long d = read_long_of (as_object d) d

abbrev read_short_or : Option Data → Data → Option (List Chunk)
read_short_or None d = read_long d
read_short_or (Some short) d = read_text short

abbrev read_short_of : Option Members → Data → Option (List Chunk)
read_short_of None d = read_text d
read_short_of (Some ms) d = read_short_or (member (codes "short") d) d

abbrev pub read_short : Data → Option (List Chunk)
read_short d = read_short_of (as_object d) d
