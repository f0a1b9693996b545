use Rattle.std.proofs.Common.{◌≡◌, map, take}
use Rattle.lit_model.specs.Text.{chunk_of}
use Rattle.lit_model.proofs.text.ChunkedString.clone.Given as goal

abbrev pub invariant-loop-chunk : goal.invariant-loop-chunk
invariant-loop-chunk l = map chunk_of l.copies.items ≡ map chunk_of (take l.chunk-index l.chunk-items)
