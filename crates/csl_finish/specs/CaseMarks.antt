-- Marks around texts whose case a style sets (CSL 1.0.2, Text-case). A mark is one of the
-- noncharacters U+FDD0 to U+FDEF, which are for a program's own use (Unicode, 23.7). Each case has two
-- of them, one before the text and the next one after it. The pairs begin at U+FDD0, in the order of
-- `TextCase`. The other marks have no meaning.
use Rattle.std.specs.Prelude.{ℕ, ◌+◌, Bool, false, not, ◌&&◌, ◌==◌, nat_le, List, [], ◌∷◌, Option, Some, None, chars, encode_utf8_all, filter, if◌then◌else◌}
use Rattle.std.specs.List.{flat_map, list_any}
use Rattle.csl_tree.specs.declared.elem.ElemChild.{ElemChild}
use Rattle.csl_tree.specs.Tokens.{child_tokens, Token, text, solid, markup, link, transparent, elem_start, elem_end}
use Rattle.csl_finish.specs.declared.case_marks.CaseMark.{CaseMark}
use Rattle.csl_finish.specs.declared.case_marks.CaseMark.TheVariants.{Start, End}
use Rattle.csl_finish.specs.declared.case_marks.TextCase.{TextCase}
use Rattle.csl_finish.specs.declared.case_marks.TextCase.TheVariants.{Lowercase, Uppercase, CapitalizeFirst, CapitalizeAll, TitleCase, SentenceCase, NoCase}

abbrev pub start_mark : TextCase → ℕ
start_mark Lowercase = 0xFDD0
start_mark Uppercase = 0xFDD2
start_mark CapitalizeFirst = 0xFDD4
start_mark CapitalizeAll = 0xFDD6
start_mark TitleCase = 0xFDD8
start_mark SentenceCase = 0xFDDA
start_mark NoCase = 0xFDDC

abbrev pub end_mark : TextCase → ℕ
end_mark case = start_mark case + 1

-- the mark that a character is, if it has a meaning
abbrev pub mark_of : ℕ → Option CaseMark
mark_of c =
    if c == 0xFDD0 then Some (Start Lowercase)
    else if c == 0xFDD1 then Some (End Lowercase)
    else if c == 0xFDD2 then Some (Start Uppercase)
    else if c == 0xFDD3 then Some (End Uppercase)
    else if c == 0xFDD4 then Some (Start CapitalizeFirst)
    else if c == 0xFDD5 then Some (End CapitalizeFirst)
    else if c == 0xFDD6 then Some (Start CapitalizeAll)
    else if c == 0xFDD7 then Some (End CapitalizeAll)
    else if c == 0xFDD8 then Some (Start TitleCase)
    else if c == 0xFDD9 then Some (End TitleCase)
    else if c == 0xFDDA then Some (Start SentenceCase)
    else if c == 0xFDDB then Some (End SentenceCase)
    else if c == 0xFDDC then Some (Start NoCase)
    else if c == 0xFDDD then Some (End NoCase)
    else None

abbrev pub is_case_mark : ℕ → Bool
is_case_mark c = nat_le 0xFDD0 c && nat_le c 0xFDEF

abbrev pub is_no_mark : ℕ → Bool
is_no_mark c = not (is_case_mark c)

abbrev pub has_mark : List ℕ → Bool
has_mark bs = list_any is_case_mark (chars bs)

-- the text without its marks
abbrev pub without_marks : List ℕ → List ℕ
without_marks bs = if has_mark bs then encode_utf8_all (filter is_no_mark (chars bs)) else bs

-- a text, a markup or the text of a link has a mark
abbrev pub token_has_mark : Token → Bool
token_has_mark (text bs f) = has_mark bs
token_has_mark (solid (markup bs)) = has_mark bs
token_has_mark (solid (link bs f url)) = has_mark bs
token_has_mark (solid (transparent n f)) = false
token_has_mark (solid (elem_start d m)) = false
token_has_mark (solid (elem_end d)) = false

-- a content has a mark
abbrev pub have_mark : List Token → Bool
have_mark ts = list_any token_has_mark ts

-- what is no text: markup, links, places and elements
abbrev pub solid_of : Token → List Token
solid_of (text bs f) = []
solid_of (solid (markup bs)) = solid (markup bs) ∷ []
solid_of (solid (link bs f url)) = solid (link bs f url) ∷ []
solid_of (solid (transparent n f)) = solid (transparent n f) ∷ []
solid_of (solid (elem_start d m)) = solid (elem_start d m) ∷ []
solid_of (solid (elem_end d)) = solid (elem_end d) ∷ []

-- the same, with the marks of markup and of the texts of links left out
abbrev pub unmarked_solid : Token → List Token
unmarked_solid (text bs f) = []
unmarked_solid (solid (markup bs)) = solid (markup (without_marks bs)) ∷ []
unmarked_solid (solid (link bs f url)) = solid (link (without_marks bs) f url) ∷ []
unmarked_solid (solid (transparent n f)) = solid (transparent n f) ∷ []
unmarked_solid (solid (elem_start d m)) = solid (elem_start d m) ∷ []
unmarked_solid (solid (elem_end d)) = solid (elem_end d) ∷ []

abbrev pub solids : List Token → List Token
solids ts = flat_map solid_of ts

abbrev pub unmarked_solids : List Token → List Token
unmarked_solids ts = flat_map unmarked_solid ts

-- the tokens of a child, or none
abbrev pub some_tokens : Option ElemChild → List Token
some_tokens None = []
some_tokens (Some child) = child_tokens child
