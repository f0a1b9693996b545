-- HTML is read as *pieces*: start tags, end tags and the escaped bytes of texts. Its first bytes
-- decide the first piece, so it has at most one list of pieces. Only the alignments none and
-- baseline of a `span` are not distinguished. A *mark* is one step of the reader: a start tag, an
-- end tag or a text.
-- `BeginsNoStart`, `IsAfterAnchor`, `byte_at`, `IsAfterText`, `rest_found`, `texts_found` and
-- `as_text` are internal: only the contracts of private functions cite them.
use Rattle.std.specs.Prelude.{◌≡◌, ℕ, ◌<◌, ◌==◌, List, [], ◌∷◌, ◌++◌, length, Option, Some, None, option_map, option_and_then, unwrap_or, codes, if◌then◌else◌}
use denote.Ref.{Bor}
use Rattle.csl_tree.specs.Escapes.{escape, escape_all, is_plain, ampersand, less_than, greater_than, quotation_mark}
use Rattle.csl_tree.specs.Html.{Tag, div, span, anchor, start_tag, html_bytes_of}
use Rattle.csl_tree.specs.declared.marks.Element.{Element}
use Rattle.csl_tree.specs.declared.marks.Element.TheVariants.{Div, Span, Anchor}
use Rattle.csl_tree.specs.declared.marks.Mark.{Mark}
use Rattle.csl_tree.specs.declared.marks.Mark.TheVariants as marks

abbrev pub element_of : Tag → Element
element_of (div d) = Div
element_of (span f) = Span
element_of (anchor url) = Anchor

-- an end tag depends on the element alone
abbrev pub end_bytes : Element → List ℕ
end_bytes Div = codes "</div>"
end_bytes Span = codes "</span>"
end_bytes Anchor = codes "</a>"

pub data Piece : Type 0 where
  start_piece : Tag → Piece
  end_piece : Element → Piece
  byte_piece : ℕ → Piece

abbrev pub piece_bytes : Piece → List ℕ
piece_bytes (start_piece tag) = html_bytes_of (start_tag tag)
piece_bytes (end_piece e) = end_bytes e
piece_bytes (byte_piece b) = escape b

abbrev pub BeginsNoPiece : List ℕ → Type 0
BeginsNoPiece html = (p : Piece) (more : List ℕ) → html ≡ piece_bytes p ++ more → ⊥

-- a start tag of the element, then the rest
abbrev pub IsStart : List ℕ → Element → List ℕ → Type 0
IsStart html e rest = (tag : Tag) × (element_of tag ≡ e) × (html ≡ html_bytes_of (start_tag tag) ++ rest)

abbrev pub BeginsNoStart : List ℕ → Type 0
BeginsNoStart html = (tag : Tag) (more : List ℕ) → html ≡ html_bytes_of (start_tag tag) ++ more → ⊥

-- the start tag of an anchor, then the rest; at `None`, the bytes begin with no such tag
abbrev pub IsAfterAnchor : List ℕ → Option (List ℕ) → Type 0
IsAfterAnchor html None = (url : List ℕ) (more : List ℕ) → html ≡ html_bytes_of (start_tag (anchor url)) ++ more → ⊥
IsAfterAnchor html (Some rest) = (url : List ℕ) × (html ≡ html_bytes_of (start_tag (anchor url)) ++ rest)

-- the bytes of the mark, then the rest
abbrev pub IsMark : List ℕ → Mark → List ℕ → Type 0
IsMark html (marks.Text text) rest = (0 < length text.now) × (html ≡ escape_all text.now ++ rest)
IsMark html (marks.Start e) rest = IsStart html e rest
IsMark html (marks.End e) rest = html ≡ end_bytes e ++ rest

-- ---- the rest after a front

-- the text without this front, if the text begins with it
abbrev pub without : List ℕ → List ℕ → Option (List ℕ)
without [] bs = Some bs
without (x ∷ xs) [] = None
without (x ∷ xs) (b ∷ bs) = if b == x then without xs bs else None

-- the text without this front, or all of it if it does not begin with the front
abbrev pub after : List ℕ → List ℕ → List ℕ
after front bs = unwrap_or (without front bs) bs

abbrev pub or_else : {A : Type 0} → Option A → Option A → Option A
or_else None o = o
or_else (Some x) o = Some x

-- the value `x` for the front, and the rest after the front
abbrev pub entity_at : {A : Type 0} → A → List ℕ → List ℕ → Option (A × List ℕ)
entity_at x front bs = option_map (λ rest. (x, rest)) (without front bs)

unfoldable pub reference_at : List ℕ → Option (ℕ × List ℕ)
reference_at bs =
    or_else (entity_at ampersand (codes "&amp;") bs)
    (or_else (entity_at less_than (codes "&lt;") bs)
    (or_else (entity_at greater_than (codes "&gt;") bs)
    (entity_at quotation_mark (codes "&quot;") bs)))

-- the first byte of a text in HTML, unescaped, and the rest
abbrev pub byte_at : List ℕ → Option (ℕ × List ℕ)
byte_at [] = None
byte_at (b ∷ bs) = if is_plain b then Some (b, bs) else reference_at (b ∷ bs)

-- a text, then a rest that begins with no text
abbrev pub IsAfterText : List ℕ → List ℕ → Type 0
IsAfterText html rest = (bs : List ℕ) × (html ≡ escape_all bs ++ rest) × (byte_at rest ≡ None)

unfoldable pub div_at : List ℕ → Option (List ℕ)
div_at bs =
    or_else (without (codes "<div>") bs)
    (or_else (without (codes "<div style=\"padding-left: 4em;\">") bs)
    (or_else (without (codes "<div style=\"float: left;\">") bs)
    (without (codes "<div style=\"float: right; clear: both;\">") bs)))

-- the rest after each declaration, which may be absent
abbrev pub after_style : List ℕ → List ℕ
after_style bs = after (codes "font-style: italic;") bs

abbrev pub after_weight : List ℕ → List ℕ
after_weight bs = unwrap_or (or_else (without (codes "font-weight: bold;") bs) (without (codes "font-weight: lighter;") bs)) bs

abbrev pub after_decoration : List ℕ → List ℕ
after_decoration bs = after (codes "text-decoration: underline;") bs

abbrev pub after_variant : List ℕ → List ℕ
after_variant bs = after (codes "font-variant: small-caps;") bs

abbrev pub after_align : List ℕ → List ℕ
after_align bs = unwrap_or (or_else (without (codes "vertical-align: super;") bs) (without (codes "vertical-align: sub;") bs)) bs

unfoldable pub after_css : List ℕ → List ℕ
after_css bs = after_align (after_variant (after_decoration (after_weight (after_style bs))))

unfoldable pub span_at : List ℕ → Option (List ℕ)
span_at bs = option_and_then (λ rest. without (codes "\">") (after_css rest)) (without (codes "<span style=\"") bs)

unfoldable pub read_end_tag : List ℕ → Option (Element × List ℕ)
read_end_tag bs =
    or_else (entity_at Div (codes "</div>") bs)
    (or_else (entity_at Span (codes "</span>") bs)
    (entity_at Anchor (codes "</a>") bs))

-- ---- the results of the code, as bytes

abbrev pub rest_found : Option (Bor (List ℕ)) → Option (List ℕ)
rest_found o = option_map (λ x. x.now) o

abbrev pub values_found : {A : Type 0} → Option (A × Bor (List ℕ)) → Option (A × List ℕ)
values_found o = option_map (λ x. (x.0, x.1.now)) o

abbrev pub texts_found : Option (Bor (List ℕ) × Bor (List ℕ)) → Option (List ℕ × List ℕ)
texts_found o = option_map (λ x. (x.0.now, x.1.now)) o

-- a byte as a text
abbrev pub as_text : Option (ℕ × List ℕ) → Option (List ℕ × List ℕ)
as_text o = option_map (λ x. (x.0 ∷ [], x.1)) o
