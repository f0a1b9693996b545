-- The text of a list of chunks is the texts of the chunks, one after another. It is white space if
-- each of its characters is (Unicode White_Space), so an empty text is white space too.
use Rattle.std.specs.Prelude.{ℕ, Bool, List, flat_map, length, chars, ◌==◌}
use Rattle.std.specs.Char.{is_whitespace}
use Rattle.std.specs.List.{list_all}
use Rattle.lit_model.specs.Text.{Chunk}

-- the texts of the chunks, one after another
abbrev pub chunks_text : List Chunk → List ℕ
chunks_text cs = flat_map (λ c. c.value) cs

-- whether the text is empty
abbrev pub is_empty : List Chunk → Bool
is_empty cs = length (chunks_text cs) == 0

-- whether each character of the text is white space (Unicode White_Space); true if it is empty
abbrev pub is_white_space : List Chunk → Bool
is_white_space cs = list_all is_whitespace (chars (chunks_text cs))
