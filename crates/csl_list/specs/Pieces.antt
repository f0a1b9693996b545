-- Pieces of a content: a text, which is nothing if it is empty, and a cite, which is an element with
-- the index of its work.
use Rattle.std.specs.Prelude.{ℕ, List, [], ◌∷◌, Some, None}
use Rattle.csl_tree.specs.Tokens.{Token, text, elem_around, of_entry}
use Rattle.csl_tree.specs.declared.formatting.Formatting.{Formatting}

abbrev pub text_of : List ℕ → Formatting → List Token
text_of [] formatting = []
text_of (b ∷ bs) formatting = text (b ∷ bs) formatting ∷ []

abbrev pub entry_around : ℕ → List Token → List Token
entry_around work cite = elem_around None (Some (of_entry work)) cite
