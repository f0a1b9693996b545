-- The attributes around the text of a node (CSL 1.0.2, Formatting, Affixes, Display, Quotes,
-- Strip-periods), as data. One dressing over another (`dressing_over`) has each field of the
-- formatting and the affixes that it sets, else the other's. The display is always its own.
use Rattle.std.specs.Prelude.{ℕ, Bool, List, Option, option_map, String, string_bytes}
use Rattle.std.specs.Option.{option_or}
use Rattle.std.specs.declared.alloc.Global.{Global}
use Rattle.csl_elements.specs.declared.formatting.Formatting.{Formatting}
use Rattle.csl_elements.specs.declared.formatting.Display.{Display}
use Rattle.csl_elements.specs.declared.affixes.Affixes.{Affixes}
use Rattle.csl_elements.specs.Formatting.{apply_partial}

abbrev pub text_if : Option (String Global) → Option (List ℕ)
text_if o = option_map string_bytes o

pub record AffixTexts : Type 0 where
  pub prefix : Option (List ℕ)
  pub suffix : Option (List ℕ)

abbrev pub affix_texts : Affixes → AffixTexts
affix_texts a = record { prefix = text_if a.prefix; suffix = text_if a.suffix }

pub record Dressing : Type 0 where
  pub formatting : Formatting
  pub affixes : AffixTexts
  pub display : Option Display

abbrev pub dressing_of : Formatting → Affixes → Option Display → Dressing
dressing_of f a d = record { formatting = f; affixes = affix_texts a; display = d }

-- the attributes of a text node
pub record TextDressing : Type 0 where
  pub dressing : Dressing
  pub quotes : Bool
  pub strip_periods : Bool

-- one dressing over a base: each field of the formatting and the affixes that it sets, else that of
-- the base; the display is its own
abbrev pub dressing_over : Dressing → Dressing → Dressing
dressing_over d base = record {
  formatting = apply_partial d.formatting base.formatting;
  affixes = record {
    prefix = option_or d.affixes.prefix base.affixes.prefix;
    suffix = option_or d.affixes.suffix base.affixes.suffix;
  };
  display = d.display;
}
