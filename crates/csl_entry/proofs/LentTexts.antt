-- The text of one chunk.
use Rattle.std.proofs.Common.{◌≡◌, ℕ, List, append-nil}
use Rattle.lit_model.specs.Chunks.{chunks_text}
use Rattle.lit_model.specs.declared.text.ChunkKind.{ChunkKind}
use Rattle.csl_entry.specs.Answers.{one_chunk}

pub text_of_one : (kind : ChunkKind) (bytes : List ℕ) → chunks_text (one_chunk kind bytes) ≡ bytes
text_of_one kind bytes = append-nil bytes
