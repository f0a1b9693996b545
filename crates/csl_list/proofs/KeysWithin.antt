-- A style with its options above limits, by one of its parts.
use Rattle.std.proofs.Common.{◌<◌, ◌⊎◌, ℕ, List, length, slice_index_or, inl, inr, arith}
use Rattle.csl_elements.specs.Node.{LayoutNode, expand_layout}
use Rattle.csl_elements.specs.View.{view_layout}
use Rattle.csl_style.specs.AllWithin.{IsAllWithin, IsLayoutWithin}
use Rattle.csl_style.specs.Depth.{layout_depth}
use Rattle.csl_style.specs.Expanded.{macro_env}
use Rattle.csl_style.specs.Size.{layout_size, rendered_size}
use Rattle.csl_style.specs.Style.{StyleParts}
use Rattle.csl_list.specs.ListStyle.{AreKeysWithin, IsWithin, style_of, citation_keys, bibliography_keys}
use Rattle.csl_list.specs.declared.list_style.KeyLayout.{KeyLayout}
use Rattle.csl_list.specs.declared.list_style.ListStyle.{ListStyle}

module _ (style : StyleParts) (rendered size depth : ℕ) where
  abbrev pub IsAbove : LayoutNode → Type 0
  IsAbove l =
      (rendered < rendered_size style.locales (expand_layout (macro_env style) l))
      ⊎ ((size < layout_size (expand_layout (macro_env style) l))
      ⊎ (depth < layout_depth (expand_layout (macro_env style) l)))

  not_within : (l : LayoutNode) → IsAbove l → IsLayoutWithin style rendered size depth l → ⊥
  not_within l (inl above) within = omega (arith, within.0)
  not_within l (inr (inl above)) within = omega (arith, within.1)
  not_within l (inr (inr above)) within = omega (arith, within.2)

  pub key_above : (keys : List KeyLayout) (place : ℕ) (d : KeyLayout) → place < length keys → IsAbove (view_layout (slice_index_or keys place d).layout) → ¬ AreKeysWithin style rendered size depth keys
  key_above keys place d within above all = not_within (view_layout (slice_index_or keys place d).layout) above (all place d within)

module _ (list : ListStyle) (rendered size depth : ℕ) where
  pub style_above : ¬ IsAllWithin (style_of list) rendered size depth → ¬ IsWithin list rendered size depth
  style_above above all = above all.0

  pub citation_above : ¬ AreKeysWithin (style_of list) rendered size depth (citation_keys list) → ¬ IsWithin list rendered size depth
  citation_above above all = above all.1

  pub bibliography_above : ¬ AreKeysWithin (style_of list) rendered size depth (bibliography_keys list) → ¬ IsWithin list rendered size depth
  bibliography_above above all = above all.2
