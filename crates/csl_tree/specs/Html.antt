-- HTML is the bytes (`html_bytes`) of a list of start tags, end tags and texts (`html`). Texts and
-- addresses are escaped. An element with a display is a `div` around its children. A text whose
-- formatting is not the default is in a `span`. A link is an anchor around its text. A span
-- declares font-style, font-weight, text-decoration, font-variant and vertical-align in this order,
-- with nothing between them. It has no declaration for a normal value, for the decoration none, or
-- for the alignments none and baseline.
-- A list is *nested* if it is empty, or a text and a nested list, or a start tag, a nested list,
-- its end tag and a nested list. Bytes are HTML (`IsHtmlOf`) if they are those of a nested list.
-- The text of HTML is the texts of that list, joined. So a span may have any declarations in this
-- order, at most one for each attribute, or none. No other tag, attribute or reference is HTML.
-- HTML has exactly one text. For the HTML of a tree, it is the leaf text of the tree. `error_text`
-- is the text that `Display` writes for each error of reading HTML.
use Rattle.std.specs.Prelude.{◌≡◌, ℕ, List, [], ◌∷◌, ◌++◌, Some, None, codes, if◌then◌else◌}
use Rattle.std.specs.List.{flat_map}
use Rattle.csl_elements.specs.declared.formatting.Display.{Display}
use Rattle.csl_elements.specs.declared.formatting.Display.TheVariants.{Block, LeftMargin, RightInline, Indent}
use Rattle.csl_elements.specs.declared.formatting.FontStyle.{FontStyle}
use Rattle.csl_elements.specs.declared.formatting.FontStyle.TheVariants as style
use Rattle.csl_elements.specs.declared.formatting.FontVariant.{FontVariant}
use Rattle.csl_elements.specs.declared.formatting.FontVariant.TheVariants as variant
use Rattle.csl_elements.specs.declared.formatting.FontWeight.{FontWeight}
use Rattle.csl_elements.specs.declared.formatting.FontWeight.TheVariants as weight
use Rattle.csl_elements.specs.declared.formatting.TextDecoration.{TextDecoration}
use Rattle.csl_elements.specs.declared.formatting.TextDecoration.TheVariants as decoration
use Rattle.csl_elements.specs.declared.formatting.VerticalAlign.{VerticalAlign}
use Rattle.csl_elements.specs.declared.formatting.VerticalAlign.TheVariants as align
use Rattle.csl_tree.specs.declared.formatting.Formatting.{Formatting}
use Rattle.csl_tree.specs.Escapes.{escape_all}
use Rattle.csl_tree.specs.Formatting.{same_formatting, default_formatting}
use Rattle.csl_tree.specs.Tokens.{Token, text, solid, markup, link, transparent, elem_start, elem_end}
use Rattle.csl_tree.specs.declared.html_error.HtmlError.{HtmlError}
use Rattle.csl_tree.specs.declared.html_error.HtmlError.TheVariants.{Memory, NotHtml}

pub data Tag : Type 0 where
  div : Display → Tag
  span : Formatting → Tag
  anchor : List ℕ → Tag

pub data HtmlToken : Type 0 where
  start_tag : Tag → HtmlToken
  end_tag : Tag → HtmlToken
  characters : List ℕ → HtmlToken

-- a text in a span of its formatting, or without one if the formatting is the default
abbrev pub html_of_text : List ℕ → Formatting → List HtmlToken
html_of_text bs f = if same_formatting f default_formatting then characters bs ∷ [] else start_tag (span f) ∷ characters bs ∷ end_tag (span f) ∷ []

abbrev pub html_of : Token → List HtmlToken
html_of (text bs f) = html_of_text bs f
html_of (solid (markup bs)) = characters bs ∷ []
html_of (solid (link bs f url)) = start_tag (anchor url) ∷ (html_of_text bs f ++ end_tag (anchor url) ∷ [])
html_of (solid (transparent n f)) = []
html_of (solid (elem_start None m)) = []
html_of (solid (elem_start (Some d) m)) = start_tag (div d) ∷ []
html_of (solid (elem_end None)) = []
html_of (solid (elem_end (Some d))) = end_tag (div d) ∷ []

abbrev pub html : List Token → List HtmlToken
html ts = flat_map html_of ts

-- each start tag has its end tag after it, with a nested list between them
pub data IsNested : List HtmlToken → Type 0 where
  nothing : IsNested []
  text_then : (bs : List ℕ) (rest : List HtmlToken) → IsNested rest → IsNested (characters bs ∷ rest)
  element_then : (tag : Tag) (inside rest : List HtmlToken) → IsNested inside → IsNested rest → IsNested (start_tag tag ∷ (inside ++ end_tag tag ∷ rest))

-- the text between the tags
abbrev pub characters_of : HtmlToken → List ℕ
characters_of (start_tag tag) = []
characters_of (end_tag tag) = []
characters_of (characters bs) = bs

abbrev pub html_text : List HtmlToken → List ℕ
html_text hs = flat_map characters_of hs

-- the declaration of each attribute, empty for a value that changes nothing
abbrev pub style_css : FontStyle → List ℕ
style_css style.Normal = []
style_css style.Italic = codes "font-style: italic;"

abbrev pub weight_css : FontWeight → List ℕ
weight_css weight.Normal = []
weight_css weight.Bold = codes "font-weight: bold;"
weight_css weight.Light = codes "font-weight: lighter;"

abbrev pub decoration_css : TextDecoration → List ℕ
decoration_css decoration.None = []
decoration_css decoration.Underline = codes "text-decoration: underline;"

abbrev pub variant_css : FontVariant → List ℕ
variant_css variant.Normal = []
variant_css variant.SmallCaps = codes "font-variant: small-caps;"

abbrev pub align_css : VerticalAlign → List ℕ
align_css align.None = []
align_css align.Baseline = []
align_css align.Sup = codes "vertical-align: super;"
align_css align.Sub = codes "vertical-align: sub;"

-- the declarations of a formatting, in this order
abbrev pub css : Formatting → List ℕ
css f = style_css f.font_style ++ (weight_css f.font_weight ++ (decoration_css f.text_decoration ++ (variant_css f.font_variant ++ align_css f.vertical_align)))

abbrev pub div_start : Display → List ℕ
div_start Block = codes "<div>"
div_start LeftMargin = codes "<div style=\"float: left;\">"
div_start RightInline = codes "<div style=\"float: right; clear: both;\">"
div_start Indent = codes "<div style=\"padding-left: 4em;\">"

-- the bytes of a token
abbrev pub html_bytes_of : HtmlToken → List ℕ
html_bytes_of (start_tag (div d)) = div_start d
html_bytes_of (start_tag (span f)) = codes "<span style=\"" ++ (css f ++ codes "\">")
html_bytes_of (start_tag (anchor url)) = codes "<a href=\"" ++ (escape_all url ++ codes "\">")
html_bytes_of (end_tag (div d)) = codes "</div>"
html_bytes_of (end_tag (span f)) = codes "</span>"
html_bytes_of (end_tag (anchor url)) = codes "</a>"
html_bytes_of (characters bs) = escape_all bs

abbrev pub html_bytes : List HtmlToken → List ℕ
html_bytes hs = flat_map html_bytes_of hs

-- `html` is the bytes of a nested list of tags and texts, and `leaves` is the texts of that list,
-- joined.
pub record IsHtmlOf (html leaves : List ℕ) : Type 0 where
  pub tokens : List HtmlToken
  pub nested : IsNested tokens
  pub written : html ≡ html_bytes tokens
  pub texts : leaves ≡ html_text tokens

abbrev pub IsNotHtml : List ℕ → Type 0
IsNotHtml html = (leaves : List ℕ) → IsHtmlOf html leaves → ⊥

-- the text that `Display` writes for each error of reading HTML
abbrev pub error_text : HtmlError → List ℕ
error_text Memory = codes "out of memory"
error_text NotHtml = codes "not html"
