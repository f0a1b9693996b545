-- Whether a text in chunks is white space, chunk by chunk.
use Rattle.std.proofs.Common.{◌≡◌, ℕ, ◌+◌, ◌<◌, ◌≤◌, Bool, true, false, ◌&&◌, List, [], ◌∷◌, length, get_or, map, drop, sym, ap, subst, ◌∙◌, chars, string_bytes, IsUtf8}
use Rattle.std.specs.Char.{is_whitespace}
use Rattle.std.specs.List.{list_all}
use Rattle.std.proofs.lemmas.List.Folds.{list_all-append}
use Rattle.std.proofs.lemmas.List.{drop_all, drop_more}
use Rattle.std.proofs.lemmas.Str.{chars-append, chars-nil}
use Rattle.lit_model.specs.Chunks.{chunks_text, is_white_space}
use Rattle.lit_model.specs.Text.{Chunk, chunk_of}
use Rattle.lit_model.specs.declared.text.StringChunk.{StringChunk}

-- a text without chunks is white space
white_space-nil : true ≡ is_white_space []
white_space-nil = ap (λ (cs : List ℕ). list_all is_whitespace cs) (sym chars-nil)

-- a text is white space exactly if its first chunk and its other chunks are
white_space-cons : (c : Chunk) (cs : List Chunk) → IsUtf8 c.value → is_white_space (c ∷ cs) ≡ (list_all is_whitespace (chars c.value) && is_white_space cs)
white_space-cons c cs u = ap (λ (ds : List ℕ). list_all is_whitespace ds) (chars-append c.value (chunks_text cs) u) ∙ list_all-append is_whitespace (chars c.value) (chars (chunks_text cs))

module _ (cs : List StringChunk) (i : ℕ) (c : StringChunk) (t : List ℕ) (b : Bool) (h : i < length cs) (is : c ≡ get_or cs i c) (is_text : t ≡ string_bytes c.value) (utf8 : IsUtf8 t) (e : b ≡ list_all is_whitespace (chars t)) where
  -- the text from chunk i on is white space exactly if this chunk and the chunks after it are
  white_space_from : is_white_space (map chunk_of (drop i cs)) ≡ (b && is_white_space (map chunk_of (drop (i + 1) cs)))
  white_space_from =
      let rest = map chunk_of (drop (i + 1) cs) in
      let here : drop i cs ≡ c ∷ drop (i + 1) cs = drop_more cs i c h ∙ ap (λ (d : StringChunk). d ∷ drop (i + 1) cs) (sym is) in
      let tested : b ≡ list_all is_whitespace (chars (string_bytes c.value)) = e ∙ ap (λ (x : List ℕ). list_all is_whitespace (chars x)) is_text in
      ap (λ (ds : List StringChunk). is_white_space (map chunk_of ds)) here
      ∙ (white_space-cons (chunk_of c) rest (subst IsUtf8 is_text utf8)
      ∙ ap (λ (x : Bool). x && is_white_space rest) (sym tested))

  -- if the chunk is not white space, neither is the text from it on
  pub white_space_ends : b ≡ false → false ≡ is_white_space (map chunk_of (drop i cs))
  white_space_ends fails = sym (white_space_from ∙ ap (λ (x : Bool). x && is_white_space (map chunk_of (drop (i + 1) cs))) fails)

  -- if the chunk is white space, the chunks after it decide
  pub white_space_goes_on : b ≡ true → is_white_space (map chunk_of (drop (i + 1) cs)) ≡ is_white_space (map chunk_of (drop i cs))
  white_space_goes_on passes = sym (white_space_from ∙ ap (λ (x : Bool). x && is_white_space (map chunk_of (drop (i + 1) cs))) passes)

-- after the last chunk the remaining text is empty, so it is white space
pub white_space_behind : (cs : List StringChunk) (i : ℕ) → length cs ≤ i → true ≡ is_white_space (map chunk_of (drop i cs))
white_space_behind cs i h = white_space-nil ∙ ap (λ (ds : List StringChunk). is_white_space (map chunk_of ds)) (sym (drop_all i cs h))
