-- A text that an entry lends: its chunks, or one chunk that no style changes.
use Rattle.std.specs.Prelude.{List}
use Rattle.lit_model.specs.Text.{Chunk, chunks}
use Rattle.lit_model.specs.declared.text.ChunkKind.TheVariants as kind
use Rattle.csl_entry.specs.Answers.{cow_view, one_chunk}
use Rattle.csl_entry.specs.declared.lent_text.LentText.{LentText}
use Rattle.csl_entry.specs.declared.lent_text.LentText.TheVariants as of_lent

abbrev pub lent_chunks : LentText → List Chunk
lent_chunks (of_lent.Chunks text) = cow_view chunks text
lent_chunks (of_lent.Verbatim text) = one_chunk kind.Verbatim text.now
