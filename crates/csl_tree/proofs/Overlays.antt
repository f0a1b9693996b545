-- Formattings applied to one another and to that of a place.
use Rattle.std.proofs.Common.{◌≡◌}
use Rattle.csl_elements.specs.declared.formatting.Formatting as partial
use Rattle.csl_elements.specs.Formatting.{IsBoth}
use Rattle.csl_tree.specs.declared.formatting.Formatting.{Formatting}
use Rattle.csl_tree.specs.Formatting.{apply_formatting}

-- applying both to a place is applying `q` to it, then `p`
pub over-both : (p q both : partial.Formatting) (f : Formatting) → IsBoth p q both → apply_formatting both f ≡ apply_formatting p (apply_formatting q f)
over-both p q both f h =
    λ i. record {
      font_style = h.font_style f.font_style i;
      font_variant = h.font_variant f.font_variant i;
      font_weight = h.font_weight f.font_weight i;
      text_decoration = h.text_decoration f.text_decoration i;
      vertical_align = h.vertical_align f.vertical_align i;
    }
