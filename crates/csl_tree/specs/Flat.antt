-- The open parts of a tree under construction, each with its content: that of the innermost part
-- (`inner`), and those of the parts around it from the inside out (`outer`). The outermost part is
-- the root, which is always open. Opening a part adds an empty content. Closing it removes its
-- content, and appends one of these to the content around it: an element, the content between two
-- texts, or nothing.
use Rattle.std.specs.Prelude.{Option, None, Some, List, [], ◌∷◌, string_bytes}
use Rattle.csl_tree.specs.Tokens.{Token}
use Rattle.csl_tree.specs.Content.{◌++>◌, text_content}
use Rattle.csl_tree.specs.declared.formatting.Formatted.{Formatted}

-- the content of the innermost open part, and those of the parts around it, from the inside out
pub record OpenParts : Type 0 where
  pub inner : List Token
  pub outer : List (List Token)

-- only the root is open, and it has no content
abbrev pub only_root : OpenParts
only_root = record { inner = []; outer = [] }

-- the contents with another one appended to the innermost
abbrev pub with_tokens : List Token → OpenParts → OpenParts
with_tokens c p = record { inner = p.inner ++> c; outer = p.outer }

-- the contents after a part is opened
abbrev pub open_part : OpenParts → OpenParts
open_part p = record { inner = []; outer = p.inner ∷ p.outer }

-- the innermost part is closed, and the given content is appended to the part around it
abbrev pub close_into : List Token → OpenParts → List (List Token) → OpenParts
close_into c p [] = p
close_into c p (part ∷ parts) = record { inner = part ++> c; outer = parts }

abbrev pub close_part : List Token → OpenParts → OpenParts
close_part c p = close_into c p p.outer

-- the innermost part is closed and dropped
abbrev pub discard_into : OpenParts → List (List Token) → OpenParts
discard_into p [] = p
discard_into p (part ∷ parts) = record { inner = part; outer = parts }

abbrev pub discard_part : OpenParts → OpenParts
discard_part p = discard_into p p.outer

-- the content of a text, if there is one
abbrev pub affix_content : Option Formatted → List Token
affix_content None = []
affix_content (Some t) = text_content (string_bytes t.text) t.formatting
