use Rattle.std.proofs.Common.{List, map, ap, ◌∙◌}
use Rattle.lit_model.specs.Chunks.{is_white_space}
use Rattle.lit_model.specs.Text.{chunk_of}
use Rattle.lit_model.specs.declared.text.StringChunk.{StringChunk}
use Rattle.lit_model.proofs.ChunkTexts.{white_space_ends, white_space_goes_on, white_space_behind}
use Rattle.lit_model.proofs.text.ChunkedString.is_white_space.Goals as goal

pub returns-then-not-is_white_space : goal.returns-then-not-is_white_space
returns-then-not-is_white_space c =
    white_space_ends c.deref-chunk-items.result.now c.loop-chunk.chunk-index c.chunk-item.result c.as_str.result.now c.is_white_space.result c.loop-chunk-test.true c.chunk-item.is c.as_str.ensures.value c.as_str.utf8 c.is_white_space.ensures c.if-not-is_white_space.true
    ∙ (c.loop-chunk.invariant ∙ ap (λ (cs : List StringChunk). is_white_space (map chunk_of cs)) c.deref-chunk-items.ensures.value)

pub loop-chunk-preserved : goal.loop-chunk-preserved
loop-chunk-preserved c =
    white_space_goes_on c.deref-chunk-items.result.now c.loop-chunk.chunk-index c.chunk-item.result c.as_str.result.now c.is_white_space.result c.loop-chunk-test.true c.chunk-item.is c.as_str.ensures.value c.as_str.utf8 c.is_white_space.ensures c.if-not-is_white_space.false
    ∙ c.loop-chunk.invariant

pub returns : goal.returns
returns c =
    white_space_behind c.deref-chunk-items.result.now c.loop-chunk.chunk-index c.loop-chunk-test.false
    ∙ (c.loop-chunk.invariant ∙ ap (λ (cs : List StringChunk). is_white_space (map chunk_of cs)) c.deref-chunk-items.ensures.value)
