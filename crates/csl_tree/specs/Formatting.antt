-- In a tree each of the five attributes of a formatting has a value (CSL 1.0.2, Formatting). The
-- default is the first value of each: normal, normal, normal, none, none. A node's formatting is
-- applied to that of its place. The result has each attribute that the node sets, and the place's
-- value for each other attribute. Two formattings are equal if all five attributes are.
use Rattle.std.specs.Prelude.{ℕ, Bool, ◌&&◌, ◌==◌, unwrap_or}
use Rattle.csl_elements.specs.declared.formatting.FontStyle.{FontStyle}
use Rattle.csl_elements.specs.declared.formatting.FontStyle.TheVariants as style
use Rattle.csl_elements.specs.declared.formatting.FontVariant.{FontVariant}
use Rattle.csl_elements.specs.declared.formatting.FontVariant.TheVariants as variant
use Rattle.csl_elements.specs.declared.formatting.FontWeight.{FontWeight}
use Rattle.csl_elements.specs.declared.formatting.FontWeight.TheVariants as weight
use Rattle.csl_elements.specs.declared.formatting.TextDecoration.{TextDecoration}
use Rattle.csl_elements.specs.declared.formatting.TextDecoration.TheVariants as decoration
use Rattle.csl_elements.specs.declared.formatting.VerticalAlign.{VerticalAlign}
use Rattle.csl_elements.specs.declared.formatting.VerticalAlign.TheVariants as align
use Rattle.csl_elements.specs.declared.formatting.Formatting as partial
use Rattle.csl_tree.specs.declared.formatting.Formatting.{Formatting}

-- each attribute that the node sets, else that of its place
abbrev pub apply_formatting : partial.Formatting → Formatting → Formatting
apply_formatting p f = record {
  font_style = unwrap_or p.font_style f.font_style;
  font_variant = unwrap_or p.font_variant f.font_variant;
  font_weight = unwrap_or p.font_weight f.font_weight;
  text_decoration = unwrap_or p.text_decoration f.text_decoration;
  vertical_align = unwrap_or p.vertical_align f.vertical_align;
}

-- the formatting of a text for which no node sets an attribute
abbrev pub default_formatting : Formatting
default_formatting = record {
  font_style = style.Normal;
  font_variant = variant.Normal;
  font_weight = weight.Normal;
  text_decoration = decoration.None;
  vertical_align = align.None;
}

-- a different number for each value of an attribute
abbrev pub style_place : FontStyle → ℕ
style_place style.Normal = 0
style_place style.Italic = 1

abbrev pub variant_place : FontVariant → ℕ
variant_place variant.Normal = 0
variant_place variant.SmallCaps = 1

abbrev pub weight_place : FontWeight → ℕ
weight_place weight.Normal = 0
weight_place weight.Bold = 1
weight_place weight.Light = 2

abbrev pub decoration_place : TextDecoration → ℕ
decoration_place decoration.None = 0
decoration_place decoration.Underline = 1

abbrev pub align_place : VerticalAlign → ℕ
align_place align.None = 0
align_place align.Baseline = 1
align_place align.Sup = 2
align_place align.Sub = 3

-- all attributes are the same
abbrev pub same_formatting : Formatting → Formatting → Bool
same_formatting f g =
    (style_place f.font_style == style_place g.font_style)
    && (variant_place f.font_variant == variant_place g.font_variant)
    && (weight_place f.font_weight == weight_place g.font_weight)
    && (decoration_place f.text_decoration == decoration_place g.text_decoration)
    && (align_place f.vertical_align == align_place g.vertical_align)
