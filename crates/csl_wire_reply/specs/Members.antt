-- Objects of a reply (docs/WIRE.md, Replies): formattings and persons as members. What has its
-- default, or is absent, has no member.
use Rattle.std.specs.Prelude.{List, ℕ, Bool, true, false, Option, Some, None, codes, map}
use Rattle.std.specs.Borrow.{Bor}
use Rattle.serde_json.specs.Data.{Data, Members, boolean, number, string, unsigned, array, object, no_members, put}
use Rattle.serde_json.specs.View.{items_of}
use Rattle.lit_model.specs.Person.{PersonView}
use Rattle.csl_elements.specs.declared.formatting.FontStyle.{FontStyle}
use Rattle.csl_elements.specs.declared.formatting.FontStyle.TheVariants as style
use Rattle.csl_elements.specs.declared.formatting.FontVariant.{FontVariant}
use Rattle.csl_elements.specs.declared.formatting.FontVariant.TheVariants as variant
use Rattle.csl_elements.specs.declared.formatting.FontWeight.{FontWeight}
use Rattle.csl_elements.specs.declared.formatting.FontWeight.TheVariants as weight
use Rattle.csl_elements.specs.declared.formatting.TextDecoration.{TextDecoration}
use Rattle.csl_elements.specs.declared.formatting.TextDecoration.TheVariants as decoration
use Rattle.csl_elements.specs.declared.formatting.VerticalAlign.{VerticalAlign}
use Rattle.csl_elements.specs.declared.formatting.VerticalAlign.TheVariants as align
use Rattle.csl_elements.specs.declared.formatting.Display.{Display}
use Rattle.csl_elements.specs.declared.formatting.Display.TheVariants as display
use Rattle.csl_tree.specs.declared.formatting.Formatting.{Formatting}

-- a text that is borrowed
abbrev pub borrowed : Bor (List ℕ) → List ℕ
borrowed t = t.now

abbrev pub font_style : FontStyle → Option (List ℕ)
font_style style.Normal = None
font_style style.Italic = Some (codes "italic")

abbrev pub font_variant : FontVariant → Option (List ℕ)
font_variant variant.Normal = None
font_variant variant.SmallCaps = Some (codes "small-caps")

abbrev pub font_weight : FontWeight → Option (List ℕ)
font_weight weight.Normal = None
font_weight weight.Bold = Some (codes "bold")
font_weight weight.Light = Some (codes "light")

abbrev pub text_decoration : TextDecoration → Option (List ℕ)
text_decoration decoration.None = None
text_decoration decoration.Underline = Some (codes "underline")

abbrev pub vertical_align : VerticalAlign → Option (List ℕ)
vertical_align align.None = None
vertical_align align.Baseline = Some (codes "baseline")
vertical_align align.Sup = Some (codes "sup")
vertical_align align.Sub = Some (codes "sub")

abbrev pub display_name : Display → List ℕ
display_name display.Block = codes "block"
display_name display.LeftMargin = codes "left-margin"
display_name display.RightInline = codes "right-inline"
display_name display.Indent = codes "indent"

-- the members, with a text if there is one
unfoldable pub put_if : List ℕ → Option (List ℕ) → Members → Members
put_if name None ms = ms
put_if name (Some t) ms = put name (string t) ms

-- the members, with `true` if it is
unfoldable pub put_flag : List ℕ → Bool → Members → Members
put_flag name false ms = ms
put_flag name true ms = put name (boolean true) ms

abbrev pub put_formatting : Formatting → Members → Members
put_formatting f ms =
    put_if (codes "vertical-align") (vertical_align f.vertical_align)
    (put_if (codes "text-decoration") (text_decoration f.text_decoration)
    (put_if (codes "font-weight") (font_weight f.font_weight)
    (put_if (codes "font-variant") (font_variant f.font_variant)
    (put_if (codes "font-style") (font_style f.font_style) ms))))

-- the parts of a person's name beside the family name
unfoldable pub put_parts : PersonView → Members → Members
put_parts p ms =
    put_if (codes "suffix") p.suffix
    (put_if (codes "prefix") p.prefix
    (put_if (codes "given") p.given_name ms))

-- what a person has beside a name
unfoldable pub put_others : PersonView → Members → Members
put_others p ms = put_flag (codes "comma-suffix") p.comma_suffix (put_if (codes "alias") p.alias ms)

abbrev pub person_data : PersonView → Data
person_data p = object (put_others p (put_parts p (put (codes "family") (string p.name) no_members)))
