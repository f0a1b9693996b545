-- One formatting over another, and the two of them over a third.
use Rattle.std.proofs.Common.{◌≡◌, Option, Some, None, unwrap_or, refl}
use Rattle.std.specs.Option.{option_or}
use Rattle.csl_elements.specs.declared.formatting.Formatting.{Formatting}
use Rattle.csl_elements.specs.Formatting.{apply_partial, IsBoth}

or-or : {A : Type 0} (x y z : Option A) → option_or (option_or x y) z ≡ option_or x (option_or y z)
or-or None y z = refl
or-or (Some a) y z = refl

unwrap-or : {A : Type 0} (x y : Option A) (v : A) → unwrap_or (option_or x y) v ≡ unwrap_or x (unwrap_or y v)
unwrap-or None y v = refl
unwrap-or (Some a) y v = refl

pub over_both : (p q : Formatting) → IsBoth p q (apply_partial p q)
over_both p q = record {
  over_any = λ base. rw (or-or p.font_style q.font_style base.font_style, or-or p.font_variant q.font_variant base.font_variant, or-or p.font_weight q.font_weight base.font_weight, or-or p.text_decoration q.text_decoration base.text_decoration, or-or p.vertical_align q.vertical_align base.vertical_align) refl;
  font_style = unwrap-or p.font_style q.font_style;
  font_variant = unwrap-or p.font_variant q.font_variant;
  font_weight = unwrap-or p.font_weight q.font_weight;
  text_decoration = unwrap-or p.text_decoration q.text_decoration;
  vertical_align = unwrap-or p.vertical_align q.vertical_align;
}
