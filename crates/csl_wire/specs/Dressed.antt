-- What is read of the attributes that many elements have (CSL 1.0.2, Formatting, Affixes, Display,
-- Text-case): each from the member of its name. A case is read as marks in the affixes, if marks are
-- wanted: the prefix ends with one, and the suffix begins with the other.
use Rattle.std.specs.Prelude.{ℕ, Bool, true, false, List, [], ◌++◌, Option, Some, None, unwrap_or, encode_utf8, map, option_map, option_and_then, codes}
use Rattle.serde_json.specs.Data.{Data}
use Rattle.serde_json.specs.Find.{as_str}
use Rattle.csl_elements.specs.declared.formatting.Formatting.{Formatting}
use Rattle.csl_elements.specs.declared.formatting.Display.{Display}
use Rattle.csl_elements.specs.declared.formatting.FontStyle.{FontStyle}
use Rattle.csl_elements.specs.declared.formatting.FontVariant.{FontVariant}
use Rattle.csl_elements.specs.declared.formatting.FontWeight.{FontWeight}
use Rattle.csl_elements.specs.declared.formatting.TextDecoration.{TextDecoration}
use Rattle.csl_elements.specs.declared.formatting.VerticalAlign.{VerticalAlign}
use Rattle.csl_elements.specs.Dressing.{AffixTexts}
use Rattle.csl_finish.specs.CaseMarks.{end_mark, start_mark}
use Rattle.csl_finish.specs.declared.case_marks.TextCase.{TextCase}
use Rattle.csl_wire.specs.Reading.{lent, pair_by, read_choice, read_member}
use Rattle.csl_wire.specs.declared.choices.TheConstants as tables

abbrev read_font_style : Data → Option (Option FontStyle)
read_font_style d = read_member (read_choice (map (pair_by lent) tables.FONT_STYLES)) (codes "font-style") d

abbrev read_font_variant : Data → Option (Option FontVariant)
read_font_variant d = read_member (read_choice (map (pair_by lent) tables.FONT_VARIANTS)) (codes "font-variant") d

abbrev read_font_weight : Data → Option (Option FontWeight)
read_font_weight d = read_member (read_choice (map (pair_by lent) tables.FONT_WEIGHTS)) (codes "font-weight") d

abbrev read_text_decoration : Data → Option (Option TextDecoration)
read_text_decoration d = read_member (read_choice (map (pair_by lent) tables.TEXT_DECORATIONS)) (codes "text-decoration") d

abbrev read_vertical_align : Data → Option (Option VerticalAlign)
read_vertical_align d = read_member (read_choice (map (pair_by lent) tables.VERTICAL_ALIGNS)) (codes "vertical-align") d

abbrev pub read_formatting : Data → Option Formatting
read_formatting d =
    option_and_then (λ style. option_and_then (λ variant. option_and_then (λ weight.
    option_and_then (λ decoration. option_map (λ align. record {
      font_style = style;
      font_variant = variant;
      font_weight = weight;
      text_decoration = decoration;
      vertical_align = align;
    })
    (read_vertical_align d)) (read_text_decoration d)) (read_font_weight d))
    (read_font_variant d)) (read_font_style d)

abbrev pub read_affixes : Data → Option AffixTexts
read_affixes d = option_and_then (λ prefix. option_map (λ suffix. record { prefix = prefix; suffix = suffix })
    (read_member as_str (codes "suffix") d)) (read_member as_str (codes "prefix") d)

abbrev read_text_case : Data → Option (Option TextCase)
read_text_case d = read_member (read_choice (map (pair_by lent) tables.TEXT_CASES)) (codes "text-case") d

-- affixes with the marks of a case
abbrev pub marked : TextCase → AffixTexts → AffixTexts
marked case a = record {
  prefix = Some (unwrap_or a.prefix [] ++ encode_utf8 (start_mark case));
  suffix = Some (encode_utf8 (end_mark case) ++ unwrap_or a.suffix []);
}

-- the same, if there is a case and marks are wanted
abbrev pub marked_if : Bool → Option TextCase → AffixTexts → AffixTexts
marked_if marks None a = a
marked_if false (Some case) a = a
marked_if true (Some case) a = marked case a

abbrev pub read_cased_affixes : Bool → Data → Option AffixTexts
read_cased_affixes marks d = option_and_then (λ affixes. option_map (λ case. marked_if marks case affixes)
    (read_text_case d)) (read_affixes d)

abbrev pub read_display : Data → Option (Option Display)
read_display d = read_member (read_choice (map (pair_by lent) tables.DISPLAYS)) (codes "display") d
