-- The laws of trees and contents: as HTML (`Html`, `Tokens`, `Write`), and in normal form
-- (`Simplify`, `Tree`). Each holds for every input, and `proofs/Theorems.antt` proves it. Clauses of
-- `leaf_text_of_html` and `simplify_fully` follow from them.
use Rattle.std.specs.Prelude.{◌≡◌, ◌↔◌, ℕ, true, List}
use Rattle.csl_tree.specs.declared.elem.BufWriteFormat.TheVariants.{Html}
use Rattle.csl_tree.specs.declared.elem.ElemChildren.{ElemChildren}
use Rattle.csl_tree.specs.Content.{IsContent}
use Rattle.csl_tree.specs.Html.{IsHtmlOf}
use Rattle.csl_tree.specs.Simplify.{has_no_empty_text, is_normal, normal_form, styled_value}
use Rattle.csl_tree.specs.Tokens.{Token, leaf_text, tokens}
use Rattle.csl_tree.specs.Tree.{Tree}
use Rattle.csl_tree.specs.Write.{text_in_format}

-- What a tree is written as is HTML of its leaf text.
abbrev pub TreesAreHtmlOfTheirText : Type 0
TreesAreHtmlOfTheirText = (c : ElemChildren) → IsHtmlOf (text_in_format Html (tokens c)) (leaf_text (tokens c))

-- The same of a content.
abbrev pub ContentsAreHtmlOfTheirText : Type 0
ContentsAreHtmlOfTheirText = (c : List Token) → IsContent c → IsHtmlOf (text_in_format Html c) (leaf_text c)

-- HTML has at most one text.
abbrev pub HtmlHasOneText : Type 0
HtmlHasOneText = (html x y : List ℕ) → IsHtmlOf html x → IsHtmlOf html y → x ≡ y

-- A normal form is normal, and has the styled value of its tree.
abbrev pub NormalFormsAreNormal : Type 0
NormalFormsAreNormal = (t : Tree) → is_normal (normal_form t) ≡ true

abbrev pub NormalFormsKeepStyledValues : Type 0
NormalFormsKeepStyledValues = (t : Tree) → styled_value (normal_form t) ≡ styled_value t

-- Trees without empty texts have one normal form exactly if they have one styled value.
abbrev pub NormalFormsTellStyledValues : Type 0
NormalFormsTellStyledValues = (t u : Tree) → has_no_empty_text t ≡ true → has_no_empty_text u ≡ true → (normal_form t ≡ normal_form u) ↔ (styled_value t ≡ styled_value u)
