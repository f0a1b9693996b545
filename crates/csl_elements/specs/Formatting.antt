-- A node may set five attributes (CSL 1.0.2, Formatting): font style, font variant, font weight,
-- text decoration and vertical alignment. One formatting over another takes each attribute that it
-- sets, and the other's for the rest. This is associative (`IsBoth`), also over a base in which all
-- attributes are set.
use Rattle.std.specs.Option.{option_or}
use Rattle.csl_elements.specs.declared.formatting.Formatting.{Formatting}
use Rattle.std.specs.Prelude.{◌≡◌, unwrap_or}
use Rattle.csl_elements.specs.declared.formatting.FontStyle.{FontStyle}
use Rattle.csl_elements.specs.declared.formatting.FontVariant.{FontVariant}
use Rattle.csl_elements.specs.declared.formatting.FontWeight.{FontWeight}
use Rattle.csl_elements.specs.declared.formatting.TextDecoration.{TextDecoration}
use Rattle.csl_elements.specs.declared.formatting.VerticalAlign.{VerticalAlign}

abbrev pub apply_partial : Formatting → Formatting → Formatting
apply_partial p base = record {
  font_style = option_or p.font_style base.font_style;
  font_variant = option_or p.font_variant base.font_variant;
  font_weight = option_or p.font_weight base.font_weight;
  text_decoration = option_or p.text_decoration base.text_decoration;
  vertical_align = option_or p.vertical_align base.vertical_align;
}

-- Over any base, r gives the same formatting as p over q over that base. The same holds for each
-- attribute over a value.
pub record IsBoth (p q r : Formatting) : Type 0 where
  pub over_any : (base : Formatting) → apply_partial r base ≡ apply_partial p (apply_partial q base)
  pub font_style : (v : FontStyle) → unwrap_or r.font_style v ≡ unwrap_or p.font_style (unwrap_or q.font_style v)
  pub font_variant : (v : FontVariant) → unwrap_or r.font_variant v ≡ unwrap_or p.font_variant (unwrap_or q.font_variant v)
  pub font_weight : (v : FontWeight) → unwrap_or r.font_weight v ≡ unwrap_or p.font_weight (unwrap_or q.font_weight v)
  pub text_decoration : (v : TextDecoration) → unwrap_or r.text_decoration v ≡ unwrap_or p.text_decoration (unwrap_or q.text_decoration v)
  pub vertical_align : (v : VerticalAlign) → unwrap_or r.vertical_align v ≡ unwrap_or p.vertical_align (unwrap_or q.vertical_align v)
