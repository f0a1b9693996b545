-- A name, or a list of names, is a list of pieces, read from the left: a text in a formatting over
-- the inherited one (`word`), a space unless there is no text yet or the text ends in white space
-- (`gap`), and a content as it is (`whole`). Only `append_piece`, which appends a piece, knows the
-- content before it; any other definition of names is a plain list. If periods are stripped, the
-- texts lose theirs, as all texts of a context do (CSL 1.0.2, Name).
use Rattle.std.specs.Prelude.{ℕ, List, [], ◌∷◌, Option, Some, None}
use Rattle.csl_elements.specs.declared.formatting.Formatting as partial
use Rattle.csl_tree.specs.Tokens.{Token}
use Rattle.csl_tree.specs.Content.{◌++>◌}
use Rattle.csl_context.specs.State.{Inherited, with_node_formatting}
use Rattle.csl_context.specs.Texts.{text_in, wanted_space}
use Rattle.csl_context.specs.Context.{ContextView}

pub data Piece : Type 0 where
  -- a text, in a formatting over the inherited one
  word : List ℕ → partial.Formatting → Piece
  -- a space, unless there is no text yet or the text ends in white space
  gap : partial.Formatting → Piece
  -- a content as it is
  whole : List Token → Piece

-- a content, and then a piece, with these inherited values
abbrev pub append_piece : Inherited → List Token → Piece → List Token
append_piece inh ts (word bs p) = ts ++> text_in (with_node_formatting p inh) bs
append_piece inh ts (gap p) = ts ++> text_in (with_node_formatting p inh) (wanted_space ts)
append_piece inh ts (whole more) = ts ++> more

-- a content, and then pieces, with these inherited values
abbrev pub append_pieces : Inherited → List Piece → List Token → List Token
append_pieces inh [] ts = ts
append_pieces inh (p ∷ ps) ts = append_pieces inh ps (append_piece inh ts p)

-- the context after the pieces
abbrev pub with_pieces : {T : Type 0} → List Piece → ContextView T → ContextView T
with_pieces ps now = record now { inner = append_pieces now.inherited ps now.inner }

-- a text, if there is one
abbrev pub optional_word : Option (List ℕ) → partial.Formatting → List Piece
optional_word None p = []
optional_word (Some bs) p = word bs p ∷ []

-- a gap and a text, if there is a text
abbrev pub spaced_word : Option (List ℕ) → partial.Formatting → List Piece
spaced_word None p = []
spaced_word (Some bs) p = gap p ∷ word bs p ∷ []
