-- A *content* is the output of a node, as a list of tokens. If two contents are put in a row
-- (`++>`), a last text and a first text of equal formatting become one text. A text, a markup or a
-- link with empty text has the empty content. So does an element that is closed around the empty
-- content. Contents built this way have no empty leaf and no element without children
-- (`IsContent`). An element that is appended whole is kept as it is, even without children.
-- A content between affixes (CSL 1.0.2, Affixes) is empty if the content is empty, else prefix,
-- content and suffix in a row.
use Rattle.std.specs.Prelude.{ℕ, List, [], ◌∷◌, ◌++◌, Option, string_bytes, if◌then◌else◌}
use Rattle.csl_elements.specs.declared.formatting.Display.{Display}
use Rattle.csl_tree.specs.declared.formatting.Formatting.{Formatting}
use Rattle.csl_tree.specs.Formatting.{same_formatting}
use Rattle.csl_tree.specs.Tokens.{Token, Meta, text, solid, markup, link, transparent, elem_start, elem_end, elem_around, optional_meta, tokens}
use Rattle.csl_tree.specs.declared.elem.Elem as elem
use Rattle.csl_tree.specs.declared.elem.ElemChildren.{ElemChildren}
use Rattle.csl_tree.specs.declared.elem.ElemChild.{ElemChild}
use Rattle.csl_tree.specs.declared.elem.ElemChild.TheOpen.{ElemChild-F, Text, Elem, Markup, Link, Transparent}
use Rattle.csl_tree.specs.declared.elem.ElemChild.TheViews.{out-ElemChild}

-- a text, then a content that it may join
abbrev pub text_before : List ℕ → Formatting → List Token → List Token
text_before bs f [] = text bs f ∷ []
text_before bs f (text more g ∷ rest) = if same_formatting f g then text (bs ++ more) f ∷ rest else text bs f ∷ text more g ∷ rest
text_before bs f (solid s ∷ rest) = text bs f ∷ solid s ∷ rest

-- a token, then a content that it may join
abbrev pub last_before : Token → List Token → List Token
last_before (text bs f) rest = text_before bs f rest
last_before (solid s) rest = solid s ∷ rest

abbrev pub join_tokens : Token → List Token → List Token → List Token
join_tokens t [] b = last_before t b
join_tokens t (u ∷ a) b = t ∷ join_tokens u a b

-- two contents in a row: a last text and a first text of equal formatting become one
infixr 65 ◌++>◌
abbrev pub ◌++>◌ : List Token → List Token → List Token
[] ++> b = b
(t ∷ a) ++> b = join_tokens t a b

-- the content of a text
abbrev pub text_content : List ℕ → Formatting → List Token
text_content [] f = []
text_content (b ∷ bs) f = text (b ∷ bs) f ∷ []

-- an element around a content, or nothing if the content is empty
abbrev pub elem_content : Option Display → Option Meta → List Token → List Token
elem_content d m [] = []
elem_content d m (t ∷ ts) = elem_around d m (t ∷ ts)

-- the content of a markup
abbrev pub markup_content : List ℕ → List Token
markup_content [] = []
markup_content (b ∷ bs) = solid (markup (b ∷ bs)) ∷ []

-- the content of a link
abbrev pub link_content : List ℕ → Formatting → List ℕ → List Token
link_content [] f url = []
link_content (b ∷ bs) f url = solid (link (b ∷ bs) f url) ∷ []

-- the content of one child: an element is kept, even without children
abbrev pub layer_content : ElemChild-F ElemChild elem.Elem ElemChildren → List Token
layer_content (Text t) = text_content (string_bytes t.text) t.formatting
layer_content (Elem e) = elem_around (elem.out-Elem e).display (optional_meta (elem.out-Elem e).meta) (tokens (elem.out-Elem e).children)
layer_content (Markup s) = markup_content (string_bytes s)
layer_content (Link t url) = link_content (string_bytes t.text) t.formatting (string_bytes url)
layer_content (Transparent n f) = solid (transparent n f) ∷ []

abbrev pub child_content : ElemChild → List Token
child_content k = layer_content (out-ElemChild k)

-- a content between two others, or nothing if the content is empty
abbrev pub affixed_content : List Token → List Token → List Token → List Token
affixed_content prefix suffix [] = []
affixed_content prefix suffix (t ∷ ts) = prefix ++> ((t ∷ ts) ++> suffix)

-- a content as calls build it: no leaf is empty, and no element is around the empty content
pub data IsContent : List Token → Type 0 where
  nothing : IsContent []
  text_then : (b : ℕ) (bs : List ℕ) (f : Formatting) (rest : List Token) → IsContent rest → IsContent (text (b ∷ bs) f ∷ rest)
  markup_then : (b : ℕ) (bs : List ℕ) (rest : List Token) → IsContent rest → IsContent (solid (markup (b ∷ bs)) ∷ rest)
  link_then : (b : ℕ) (bs : List ℕ) (f : Formatting) (url : List ℕ) (rest : List Token) → IsContent rest → IsContent (solid (link (b ∷ bs) f url) ∷ rest)
  transparent_then : (n : ℕ) (f : Formatting) (rest : List Token) → IsContent rest → IsContent (solid (transparent n f) ∷ rest)
  element_then : (d : Option Display) (m : Option Meta) (t : Token) (inside rest : List Token)
      → IsContent (t ∷ inside) → IsContent rest → IsContent (solid (elem_start d m) ∷ (t ∷ (inside ++ solid (elem_end d) ∷ rest)))
