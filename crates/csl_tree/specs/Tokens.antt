-- An output tree as a list of tokens. Each text, markup, link and transparent has one token. Each
-- element has one where it opens, with its display and meta, and one where it closes. The list
-- leaves out only how texts are stored.
-- - The *leaf text* is the text of the texts, markups and links, in order. A transparent has none.
--   The length of a tree is the number of bytes of its leaf text, or `usize::MAX` if there are
--   more.
-- - A text, a markup and a link are *empty* if their text is, and an element if each of its
--   children is. A transparent is never empty.
-- - A link and a transparent *have content*. A text and a markup have content if one of their
--   characters is not white space (Unicode White_Space), and an element if one of its children has.
-- - A tree *has text* if its leaf text is not empty. It *ends in white space* if its leaf text has
--   a last character and this is white space. It *has children* if it has any, even empty ones.
use Rattle.std.specs.Prelude.{ℕ, Bool, true, false, not, List, [], ◌∷◌, ◌++◌, Option, Some, None, ◌==◌, string_bytes, length, map, Vec}
use Rattle.std.specs.List.{flat_map, list_any, list_all, last_or}
use Rattle.std.specs.Char.{is_whitespace, is_not_whitespace}
use Rattle.std.specs.Str.{chars}
use Rattle.std.specs.declared.alloc.Global.{Global}
use Rattle.lit_model.specs.declared.person.Person.{Person}
use Rattle.lit_model.specs.Person.{PersonView, person_view}
use Rattle.csl_elements.specs.declared.taxonomy.NameVariable.{NameVariable}
use Rattle.csl_elements.specs.declared.formatting.Display.{Display}
use Rattle.csl_tree.specs.declared.formatting.Formatting.{Formatting}
use Rattle.csl_tree.specs.declared.formatting.Formatted.{Formatted}
use Rattle.csl_tree.specs.declared.elem.ElemMeta.{ElemMeta}
use Rattle.csl_tree.specs.declared.elem.ElemMeta.TheVariants as meta
use Rattle.csl_tree.specs.declared.elem.ElemChild.{ElemChild}
use Rattle.csl_tree.specs.declared.elem.ElemChild.TheOpen.{ElemChild-F, Elem-F, ElemChildren-F, Text, Elem, Markup, Link, Transparent}
use Rattle.csl_tree.specs.declared.elem.ElemChild.TheFolds.{fold-ElemChild, fold-Elem, fold-ElemChildren}
use Rattle.csl_tree.specs.declared.elem.Elem as elem
use Rattle.csl_tree.specs.declared.elem.ElemChildren.{ElemChildren}

-- the kind of node that rendered an element
pub data Meta : Type 0 where
  of_names : List (List PersonView × NameVariable) → Meta
  of_date : Meta
  of_text : Meta
  of_number : Meta
  of_label : Meta
  of_citation_number : Meta
  of_name : NameVariable → ℕ → Meta
  of_entry : ℕ → Meta
  of_citation_label : Meta

-- the persons of a variable
abbrev pub names_of : Vec Person Global × NameVariable → List PersonView × NameVariable
names_of n = (map person_view n.0.items, n.1)

abbrev pub meta_of : ElemMeta → Meta
meta_of (meta.Names names) = of_names (map names_of names.items)
meta_of meta.Date = of_date
meta_of meta.Text = of_text
meta_of meta.Number = of_number
meta_of meta.Label = of_label
meta_of meta.CitationNumber = of_citation_number
meta_of (meta.Name v n) = of_name v n
meta_of (meta.Entry n) = of_entry n
meta_of meta.CitationLabel = of_citation_label

abbrev pub optional_meta : Option ElemMeta → Option Meta
optional_meta None = None
optional_meta (Some m) = Some (meta_of m)

-- a token that never joins another
pub data Solid : Type 0 where
  markup : List ℕ → Solid
  link : List ℕ → Formatting → List ℕ → Solid
  transparent : ℕ → Formatting → Solid
  elem_start : Option Display → Option Meta → Solid
  elem_end : Option Display → Solid

pub data Token : Type 0 where
  text : List ℕ → Formatting → Token
  solid : Solid → Token

-- the one token of a text
abbrev pub text_tokens : Formatted → List Token
text_tokens t = text (string_bytes t.text) t.formatting ∷ []

-- the one token of a link
abbrev pub link_tokens : Formatted → List ℕ → List Token
link_tokens t url = solid (link (string_bytes t.text) t.formatting url) ∷ []

-- an element around the tokens inside
abbrev pub elem_around : Option Display → Option Meta → List Token → List Token
elem_around d m inside = solid (elem_start d m) ∷ (inside ++ solid (elem_end d) ∷ [])

-- one level of a tree, with the tokens of its parts
abbrev pub child_step : ElemChild-F (List Token) (List Token) (List Token) → List Token
child_step (Text t) = text_tokens t
child_step (Elem inside) = inside
child_step (Markup s) = solid (markup (string_bytes s)) ∷ []
child_step (Link t url) = link_tokens t (string_bytes url)
child_step (Transparent n f) = solid (transparent n f) ∷ []

abbrev pub elem_step : Elem-F (List Token) (List Token) (List Token) → List Token
elem_step e = elem_around e.display (optional_meta e.meta) e.children

abbrev pub children_step : ElemChildren-F (List Token) (List Token) (List Token) → List Token
children_step c = flat_map (λ ts. ts) c.0.items

abbrev pub child_tokens : ElemChild → List Token
child_tokens = fold-ElemChild (List Token) (List Token) (List Token) child_step elem_step children_step

abbrev pub elem_tokens : elem.Elem → List Token
elem_tokens = fold-Elem (List Token) (List Token) (List Token) child_step elem_step children_step

abbrev pub tokens : ElemChildren → List Token
tokens = fold-ElemChildren (List Token) (List Token) (List Token) child_step elem_step children_step

-- Leaf text: the texts, markups and link texts in order
abbrev pub token_text : Token → List ℕ
token_text (text bs f) = bs
token_text (solid (markup bs)) = bs
token_text (solid (link bs f url)) = bs
token_text (solid (transparent n f)) = []
token_text (solid (elem_start d m)) = []
token_text (solid (elem_end d)) = []

abbrev pub leaf_text : List Token → List ℕ
leaf_text ts = flat_map token_text ts

abbrev pub has_text : List Token → Bool
has_text ts = not (length (leaf_text ts) == 0)

-- the last character of a text
abbrev pub last_char : List ℕ → Option ℕ
last_char bs = last_or None (chars bs)

abbrev pub is_white_space : Option ℕ → Bool
is_white_space None = false
is_white_space (Some c) = is_whitespace c

-- the leaf text has a last character, and that is white space
abbrev pub ends_in_white_space : List Token → Bool
ends_in_white_space ts = is_white_space (last_char (leaf_text ts))

-- there is a child, even an empty one
abbrev pub has_children : List Token → Bool
has_children [] = false
has_children (t ∷ ts) = true

-- a text, markup or link with empty text is empty; the tokens of an element count as empty, and a
-- transparent does not
abbrev pub is_empty_token : Token → Bool
is_empty_token (text bs f) = length bs == 0
is_empty_token (solid (markup bs)) = length bs == 0
is_empty_token (solid (link bs f url)) = length bs == 0
is_empty_token (solid (transparent n f)) = false
is_empty_token (solid (elem_start d m)) = true
is_empty_token (solid (elem_end d)) = true

abbrev pub is_empty : List Token → Bool
is_empty ts = list_all is_empty_token ts

-- the text has a character other than white space
abbrev pub has_visible : List ℕ → Bool
has_visible bs = list_any is_not_whitespace (chars bs)

-- a link, a transparent, and a text or markup that is not all white space have content
abbrev pub token_has_content : Token → Bool
token_has_content (text bs f) = has_visible bs
token_has_content (solid (markup bs)) = has_visible bs
token_has_content (solid (link bs f url)) = true
token_has_content (solid (transparent n f)) = true
token_has_content (solid (elem_start d m)) = false
token_has_content (solid (elem_end d)) = false

abbrev pub has_content : List Token → Bool
has_content ts = list_any token_has_content ts
