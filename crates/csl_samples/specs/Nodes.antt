-- Node attributes that set only affixes or only formatting.
use Rattle.std.specs.Prelude.{None, false}
use Rattle.csl_elements.specs.declared.formatting.Formatting.{Formatting}
use Rattle.csl_elements.specs.Constructors.{no_dressing}
use Rattle.csl_elements.specs.Dressing.{AffixTexts, Dressing, TextDressing}

abbrev pub no_affixes : AffixTexts
no_affixes = record { prefix = None; suffix = None }

-- node attributes that set only affixes
abbrev pub only_affixes : AffixTexts → Dressing
only_affixes affixes = record no_dressing { affixes = affixes }

-- text attributes that set only a formatting
abbrev pub formatted_dressing : Formatting → TextDressing
formatted_dressing f = record { dressing = record no_dressing { formatting = f }; quotes = false; strip_periods = false }
