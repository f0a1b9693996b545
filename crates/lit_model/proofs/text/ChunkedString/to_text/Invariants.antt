use Rattle.std.proofs.Common.{◌≡◌, map, take, string_bytes}
use Rattle.lit_model.specs.Chunks.{chunks_text}
use Rattle.lit_model.specs.Text.{chunk_of}
use Rattle.lit_model.proofs.text.ChunkedString.to_text.Given as goal

abbrev pub invariant-loop-chunk : goal.invariant-loop-chunk
invariant-loop-chunk l = string_bytes l.text ≡ chunks_text (map chunk_of (take l.chunk-index l.chunk-items))
