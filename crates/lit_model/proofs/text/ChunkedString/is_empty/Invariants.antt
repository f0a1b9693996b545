use Rattle.std.proofs.Common.{◌≡◌, map, drop}
use Rattle.lit_model.specs.Chunks.{is_empty}
use Rattle.lit_model.specs.Text.{chunk_of}
use Rattle.lit_model.proofs.text.ChunkedString.is_empty.Given as goal

abbrev pub invariant-loop-chunk : goal.invariant-loop-chunk
invariant-loop-chunk l = is_empty (map chunk_of (drop l.chunk-index l.chunk-items)) ≡ is_empty (map chunk_of l.chunk-items)
