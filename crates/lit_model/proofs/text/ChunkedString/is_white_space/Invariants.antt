use Rattle.std.proofs.Common.{◌≡◌, map, drop}
use Rattle.lit_model.specs.Chunks.{is_white_space}
use Rattle.lit_model.specs.Text.{chunk_of}
use Rattle.lit_model.proofs.text.ChunkedString.is_white_space.Given as goal

abbrev pub invariant-loop-chunk : goal.invariant-loop-chunk
invariant-loop-chunk l = is_white_space (map chunk_of (drop l.chunk-index l.chunk-items)) ≡ is_white_space (map chunk_of l.chunk-items)
