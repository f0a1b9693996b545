-- The attributes of a body without quotes.
use Rattle.std.proofs.Common.{Bool, false}
use Rattle.csl_elements.specs.Dressing.{Dressing}
use Rattle.csl_context.specs.Bodies.{BodyAttributes}

-- the attributes of a node without quotes that apply to its body
abbrev pub plain_attributes : Dressing → Bool → BodyAttributes
plain_attributes d strip = record { formatting = d.formatting; affixes = d.affixes; quotes = false; strip_periods = strip }
