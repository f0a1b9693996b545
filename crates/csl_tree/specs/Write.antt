-- Plain text is the leaf text, with a newline where an element of display Block opens and where it
-- closes. `Html` defines HTML.
use Rattle.std.specs.Prelude.{ℕ, List, [], ◌∷◌, Option, Some, None}
use Rattle.std.specs.List.{flat_map}
use Rattle.csl_elements.specs.declared.formatting.Display.{Display}
use Rattle.csl_elements.specs.declared.formatting.Display.TheVariants.{Block, LeftMargin, RightInline, Indent}
use Rattle.csl_tree.specs.declared.elem.BufWriteFormat.{BufWriteFormat}
use Rattle.csl_tree.specs.declared.elem.BufWriteFormat.TheVariants as format
use Rattle.csl_tree.specs.Tokens.{Token, text, solid, markup, link, transparent, elem_start, elem_end}
use Rattle.csl_tree.specs.Html.{html, html_bytes}

abbrev pub newline_char : ℕ
newline_char = 10

-- a newline before and after a block
abbrev pub line_break : Option Display → List ℕ
line_break None = []
line_break (Some Block) = newline_char ∷ []
line_break (Some LeftMargin) = []
line_break (Some RightInline) = []
line_break (Some Indent) = []

abbrev pub plain_of : Token → List ℕ
plain_of (text bs f) = bs
plain_of (solid (markup bs)) = bs
plain_of (solid (link bs f url)) = bs
plain_of (solid (transparent n f)) = []
plain_of (solid (elem_start d m)) = line_break d
plain_of (solid (elem_end d)) = line_break d

-- the leaf text, with its line breaks
abbrev pub plain_text : List Token → List ℕ
plain_text ts = flat_map plain_of ts

abbrev pub text_in_format : BufWriteFormat → List Token → List ℕ
text_in_format format.Plain ts = plain_text ts
text_in_format format.Html ts = html_bytes (html ts)
