-- `==` of texts compares their chunks.
use Rattle.std.proofs.Common.{◌≡◌, ap, rules}
use Rattle.std.specs.Bool.{Decides}
use Rattle.lit_model.specs.Text.{chunk_of, chunks, FormatStringView, format_string_view}
use Rattle.lit_model.specs.declared.text.StringChunk.{StringChunk}
use Rattle.lit_model.specs.declared.text.ChunkedString.{ChunkedString}
use Rattle.lit_model.specs.declared.text.FormatString.{FormatString}
use Rattle.lit_model.specs.contracts.text.StringChunkPartialEq.TheImpl.{eq-value as eq_chunk}
use Rattle.lit_model.specs.contracts.text.ChunkedStringPartialEq.TheImpl.{eq-value as eq_chunks}
use Rattle.lit_model.specs.contracts.text.FormatStringPartialEq.TheImpl.{eq-value as eq_forms}
use Rattle.lit_model.proofs.PageEqual.{pointwise_view}
use Rattle.lit_model.proofs.ByValue.{both, through, option_view}

pub chunk_decides : (a b : StringChunk) → Decides (eq_chunk.it a b) (chunk_of a ≡ chunk_of b)
chunk_decides a b = search rules

pub chunks_decide : (a b : ChunkedString) → Decides (eq_chunks.it a b) (chunks a ≡ chunks b)
chunks_decide a b = pointwise_view eq_chunk.it chunk_of chunk_decides a.0.items b.0.items

pub forms_decide : (a b : FormatString) → Decides (eq_forms.it a b) (format_string_view a ≡ format_string_view b)
forms_decide a b = through _ (both _ _ (chunks_decide a.value b.value) (option_view eq_chunks.it chunks chunks_decide a.short b.short))
    (λ h. let e = h.0 in let f = h.1 in cc)
    (λ h. (ap (λ (t : FormatStringView). t.value) h, ap (λ (t : FormatStringView). t.short) h))
